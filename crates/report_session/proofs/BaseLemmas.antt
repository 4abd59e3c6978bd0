-- What a run goes on from.
use Rattle.std.proofs.Common.{◌≡◌, ◌∙◌, ◌≤◌, ◌+◌, ℕ, true, false, List, Option, None, Some}
use Rattle.std.proofs.Common.{refl, sym, ap, subst, arith, length, map, replicate, inl, inr}
use Rattle.std.proofs.lemmas.Bool.{false≢true}
use Rattle.slot_disk.specs.{IfImageKnown}
use Rattle.checkpoint.specs.declared.settings.StoreSettings.{StoreSettings}
use Rattle.recovery.specs.declared.fault.OpenFault.TheVariants as opening
use Rattle.recovery.specs.declared.store_fault.StoreFault.TheVariants as reading
use Rattle.recovery.specs.declared.opened.Opened.{Opened}
use Rattle.command_words.specs.{AreLimited}
use Rattle.std.specs.Prelude.{IfSome, is_some}
use Rattle.prefix_lattice.specs.{RecordValue}
use Rattle.hhh_report.specs.{AreNotPast}
use Rattle.shard_state.specs.{CutValue, ShardValue, core_shape}
use Rattle.pass_tokens.specs.{first_view}
use Rattle.checkpoint.specs.{AreSettings, SaverState, DiskMatches, settings_shape}
use Rattle.recovery.specs.{CanGoOn, IsBaseFor, OpensToBase, base_positions, greatest_opened}
use Rattle.command_words.specs.declared.settings.Settings.{Settings}
use Rattle.report_session.specs.DealtFeed.{FeedGoesOn, HasNoBase, IsFeedBase, IsFeedSaver}
use Rattle.report_session.specs.Saving.{settings_of_store-allowed, CanMakeSaves, settings_of_store}
use Rattle.report_session.specs.Session.{session_opening, session_start, asked_shape, GoesOnFrom}
use Rattle.report_session.specs.declared.base.Base.{Base}
use Rattle.run_status.specs.declared.status.Status.{Status}
use Rattle.run_status.specs.declared.status.Status.TheVariants.{OutOfMemory}
use Rattle.report_session.proofs.OpeningShardLemmas.{resumed_opening_shards_at_cut, opening_shards_start_at_zero}
use Rattle.report_session.proofs.SeenPositionLemmas.{seen_positions_not_past_self}
use Rattle.report_session.proofs.SessionThreadLemmas.{first_session_thread_sees_starts}

-- shards may go on from the base
pub base_goes_on : (settings : Settings) (lists : List (List RecordValue)) (store : Option (List ℕ)) (base : Option CutValue)
    → AreLimited settings → GoesOnFrom settings lists store base → IfSome base (FeedGoesOn (asked_shape settings) lists)
base_goes_on settings lists store None limited begins = tt
base_goes_on settings lists store (Some cut) limited begins =
    record { alike = begins.fits.shape.alike; continues = begins.fits.continues }

-- the positions of the base are those at which the shards start
pub base_starts : (settings : Settings) (lists : List (List RecordValue)) (base : Option CutValue)
    → length lists ≡ settings.shards → IfSome base (IsBaseFor (settings_of_store settings) lists)
    → base_positions (settings_of_store settings) base ≡ session_start (session_opening (asked_shape settings) lists base)
base_starts settings lists None many fits =
    ap (λ n. replicate n 0) (sym many) ∙ sym (opening_shards_start_at_zero (asked_shape settings) lists)
base_starts settings lists (Some cut) many fits = sym (resumed_opening_shards_at_cut lists cut.shards fits.continues)

-- the saver of the base may make the saves of a session
pub base_saver_is_ready : (settings : Settings) (lists : List (List RecordValue)) (reads : Option (List ℕ))
    (possible : List ℕ → Type 0) (opening : List ShardValue) (positions : List ℕ) (saver : Option SaverState)
    → AreLimited settings → is_some saver ≡ settings.store → length opening ≡ settings.shards
    → core_shape opening ≡ asked_shape settings → positions ≡ session_start opening → IfSome saver (IsFeedSaver settings lists positions)
    → IfSome saver (DiskMatches reads possible)
    → IfSome saver (CanMakeSaves reads possible opening (first_view opening) (settings.rounds + 1))
base_saver_is_ready settings lists reads possible opening positions None limited used many alike starts is stands = tt
base_saver_is_ready settings lists reads possible opening positions (Some saver) limited used many alike starts is stands =
    let early : saver.sequence ≤ greatest_opened = is.early in
    let few : settings.rounds ≤ 32 = limited.few_rounds in
    record {
      fits = record {
        settings = subst AreSettings (sym is.settings_are) (settings_of_store-allowed settings limited);
        shards = ap (λ (s : StoreSettings). s.shards) is.settings_are ∙ sym many;
        shape = ap settings_shape is.settings_are ∙ sym alike;
        seen = subst (λ ps. AreNotPast ps (map (λ trail. trail.seen) (first_view opening).trails))
            (first_session_thread_sees_starts opening ∙ sym starts ∙ sym is.positions_are)
            (seen_positions_not_past_self (map (λ trail. trail.seen) (first_view opening).trails));
      };
      stands = stands;
      early = omega (arith, early, few);
    }

-- the base that a store opened to
pub opened_base : (settings : Settings) (lists : List (List RecordValue)) (store : Option (List ℕ)) (opened : Opened)
    (base : Base) → settings.store ≡ true → length lists ≡ settings.shards
    → CanGoOn (settings_of_store settings) lists opened
    → IfImageKnown store (λ image. OpensToBase (settings_of_store settings) lists image opened.base)
    → base.cut ≡ opened.base → base.positions ≡ opened.positions → base.saver ≡ Some opened.saver
    → IsFeedBase settings lists store base
opened_base settings lists store opened base used many goes_on opens cut positions saver = record {
  begins = record {
    unused = λ unused. absurd (false≢true (sym unused ∙ used));
    fits = subst (λ o. IfSome o (IsBaseFor (settings_of_store settings) lists)) (sym cut) goes_on.base;
    opens = λ is_used. subst (λ o. IfImageKnown store (λ image. OpensToBase (settings_of_store settings) lists image o)) (sym cut)
        opens;
  };
  used = ap is_some saver ∙ sym used;
  positions_are =
      positions ∙ goes_on.positions_are ∙ base_starts settings lists opened.base many goes_on.base
      ∙ ap (λ o. session_start (session_opening (asked_shape settings) lists o)) (sym cut);
  saver =
      subst (λ o. IfSome o (IsFeedSaver settings lists base.positions)) (sym saver) (record {
        settings_are = goes_on.saver_settings;
        digest_is = goes_on.saver_digest;
        early = goes_on.early;
        positions_are = goes_on.saver_positions ∙ sym positions;
      });
}

-- the base without a store
pub new_base : (settings : Settings) (lists : List (List RecordValue)) (store : Option (List ℕ)) (base : Base)
    → settings.store ≡ false → base ≡ record { cut = None; positions = replicate (length lists) 0; saver = None }
    → IsFeedBase settings lists store base
new_base settings lists store base unused is =
    subst (IsFeedBase settings lists store) (sym is) (record {
      begins = record {
        unused = λ without. refl;
        fits = tt;
        opens = λ used. absurd (false≢true (sym unused ∙ used));
      };
      used = sym unused;
      positions_are = sym (opening_shards_start_at_zero (asked_shape settings) lists);
      saver = tt;
    })

-- memory ran out before there was a base
pub no_base : (settings : Settings) (lists : List (List RecordValue)) (store : Option (List ℕ)) (faults : ℕ)
    (status : Status) → status ≡ OutOfMemory → HasNoBase settings lists store faults faults status
no_base settings lists store faults status is = record {
  fault = opening.OutOfMemory;
  status_is = is;
  used = inr refl;
  refused = λ image known. inl (reading.OutOfMemory, refl, tt);
  rose = λ same. cc same;
  kept = λ other. refl;
}
