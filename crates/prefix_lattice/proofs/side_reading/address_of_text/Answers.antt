use Rattle.std.proofs.Common.{◌/◌, ◌%◌, arith}
use Rattle.prefix_lattice.proofs.TextCutLemmas.{text_cut-no_next_number}
use Rattle.prefix_lattice.proofs.AddressTextLemmas.{address_text_after_first, address_text-first_number}
use Rattle.prefix_lattice.proofs.AddressTextLemmas.{address_text-second_number, address_text-cut_into_numbers}
use Rattle.prefix_lattice.proofs.side_reading.address_of_text.Goals as goal

pub returns-in_default-clause-none : goal.returns-in_default-clause-none
returns-in_default-clause-none c = λ address small same.
    text_cut-no_next_number c.args.text.now (address_text_after_first address) (address / 256 / 256 / 256 % 256) (omega arith)
    c.in_default.ensures.none same

pub returns-in_default-cut_at-clause-none : goal.returns-in_default-cut_at-clause-none
returns-in_default-cut_at-clause-none c = λ address small same.
    let first = address_text-first_number c.args.text.now c.in-Some.first.before.now c.in-Some.first.after.now address
    (record { is_before = c.in-Some.ensures.before; joined = c.in-Some.ensures.joined }) same in
    text_cut-no_next_number c.in-Some.first.after.now _ (address / 256 / 256 % 256) (omega arith)
    c.in_default-cut_at.ensures.none first.1

pub returns-in_default-cut_at-2-clause-none : goal.returns-in_default-cut_at-2-clause-none
returns-in_default-cut_at-2-clause-none c = λ address small same.
    let first = address_text-first_number c.args.text.now c.in-Some.first.before.now c.in-Some.first.after.now address
    (record { is_before = c.in-Some.ensures.before; joined = c.in-Some.ensures.joined }) same in
    let second = address_text-second_number c.in-Some.first.after.now c.in-Some-cut_at.second.before.now
    c.in-Some-cut_at.second.after.now address
    (record { is_before = c.in-Some-cut_at.ensures.before; joined = c.in-Some-cut_at.ensures.joined }) first.1 in
    text_cut-no_next_number c.in-Some-cut_at.second.after.now _ (address / 256 % 256) (omega arith)
    c.in_default-cut_at-2.ensures.none second.1

pub returns-in_default-byte_of-clause-none : goal.returns-in_default-byte_of-clause-none
returns-in_default-byte_of-clause-none c = λ address small same.
    let numbers = address_text-cut_into_numbers address c.args.text.now _ _ _ _ _ _ same
    (record { is_before = c.in-Some.ensures.before; joined = c.in-Some.ensures.joined })
    (record { is_before = c.in-Some-cut_at.ensures.before; joined = c.in-Some-cut_at.ensures.joined })
    (record { is_before = c.in-Some-cut_at-2.ensures.before; joined = c.in-Some-cut_at-2.ensures.joined }) in
    c.in_default-byte_of.ensures.none (address / 256 / 256 / 256 % 256) (omega arith) numbers.first_is

pub returns-in_default-byte_of-2-clause-none : goal.returns-in_default-byte_of-2-clause-none
returns-in_default-byte_of-2-clause-none c = λ address small same.
    let numbers = address_text-cut_into_numbers address c.args.text.now _ _ _ _ _ _ same
    (record { is_before = c.in-Some.ensures.before; joined = c.in-Some.ensures.joined })
    (record { is_before = c.in-Some-cut_at.ensures.before; joined = c.in-Some-cut_at.ensures.joined })
    (record { is_before = c.in-Some-cut_at-2.ensures.before; joined = c.in-Some-cut_at-2.ensures.joined }) in
    c.in_default-byte_of-2.ensures.none (address / 256 / 256 % 256) (omega arith) numbers.second_is

pub returns-in_default-byte_of-3-clause-none : goal.returns-in_default-byte_of-3-clause-none
returns-in_default-byte_of-3-clause-none c = λ address small same.
    let numbers = address_text-cut_into_numbers address c.args.text.now _ _ _ _ _ _ same
    (record { is_before = c.in-Some.ensures.before; joined = c.in-Some.ensures.joined })
    (record { is_before = c.in-Some-cut_at.ensures.before; joined = c.in-Some-cut_at.ensures.joined })
    (record { is_before = c.in-Some-cut_at-2.ensures.before; joined = c.in-Some-cut_at-2.ensures.joined }) in
    c.in_default-byte_of-3.ensures.none (address / 256 % 256) (omega arith) numbers.third_is

pub returns-in_default-byte_of-4-clause-none : goal.returns-in_default-byte_of-4-clause-none
returns-in_default-byte_of-4-clause-none c = λ address small same.
    let numbers = address_text-cut_into_numbers address c.args.text.now _ _ _ _ _ _ same
    (record { is_before = c.in-Some.ensures.before; joined = c.in-Some.ensures.joined })
    (record { is_before = c.in-Some-cut_at.ensures.before; joined = c.in-Some-cut_at.ensures.joined })
    (record { is_before = c.in-Some-cut_at-2.ensures.before; joined = c.in-Some-cut_at-2.ensures.joined }) in
    c.in_default-byte_of-4.ensures.none (address % 256) (omega arith) numbers.fourth_is
