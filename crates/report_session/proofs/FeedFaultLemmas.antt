-- How a session broke off, step by step.
use Rattle.std.proofs.Common.{◌≡◌, ℕ, sym, ap₂, subst}
use Rattle.outside_io.specs.{FaultRose}
use Rattle.report_session.specs.DealtFeed.{IsFeedFault, IsSaveFault}
use Rattle.report_session.specs.LiveRounds.{RoundFaults}
use Rattle.run_status.specs.declared.status.Status.{Status}
use Rattle.run_status.specs.declared.status.Status.TheVariants.{WriteFault, DiskFault, OutOfMemory}

-- the sink failed
pub feed_fault_of_sink : (sink_before sink_between sink_now disk_before disk_now : ℕ) (status : Status)
    → (status ≡ WriteFault) × FaultRose sink_between sink_now → sink_between ≡ sink_before → disk_now ≡ disk_before
    → IsFeedFault (record { sink = sink_before; disk = disk_before }) (record { sink = sink_now; disk = disk_now }) status
feed_fault_of_sink sink_before sink_between sink_now disk_before disk_now status failed earlier same =
    subst (IsFeedFault (record { sink = sink_before; disk = disk_before }) (record { sink = sink_now; disk = disk_now }))
    (sym failed.0) (record { rose = subst (λ n. FaultRose n sink_now) earlier failed.1; disk = same })

-- a save failed
pub feed_fault_of_save : (sink_before sink_now disk_before disk_now : ℕ) (status : Status)
    → IsSaveFault disk_before disk_now status → sink_now ≡ sink_before
    → IsFeedFault (record { sink = sink_before; disk = disk_before }) (record { sink = sink_now; disk = disk_now }) status
feed_fault_of_save sink_before sink_now disk_before disk_now DiskFault fault same = record { rose = fault; sink = same }
feed_fault_of_save sink_before sink_now disk_before disk_now OutOfMemory fault same =
    ap₂ (λ s d. record { sink = s; disk = d }) same fault
feed_fault_of_save sink_before sink_now disk_before disk_now _ fault same = absurd fault

-- a fault after steps without one
pub feed_fault_after_good_steps : (before between now : RoundFaults) (status : Status) → between ≡ before → IsFeedFault between now status
    → IsFeedFault before now status
feed_fault_after_good_steps before between now status same fault = subst (λ f. IsFeedFault f now status) same fault
