use Rattle.std.proofs.Common.{◌≡◌, ℕ, ◌≤◌, ◌∷◌, ◌++◌, length, decimal, ap, ◌∙◌, arith}
use Rattle.prefix_lattice.specs.Address.{address_of}
use Rattle.prefix_lattice.specs.PrefixText.{address_text, side_text}
use Rattle.prefix_lattice.proofs.TextLengthLemmas.{length-address_text, text_length-bits}
use Rattle.prefix_lattice.proofs.WrittenPartLemmas.{written_parts-joined, written_part-same}
use Rattle.prefix_lattice.proofs.side_writing.write_side.Goals as goal

pub write_address-end-requires : goal.write_address-end-requires
write_address-end-requires c = omega (arith, c.requires, length-address_text c.address.result)

pub write_behind-requires : goal.write_behind-requires
write_behind-requires c =
    let few : c.len.result ≤ 32 = omega (arith, c.len.ensures.len, c.len.ensures.leading.few) in
    omega (
      arith,
      c.requires,
      c.write_address-end.ensures.ends,
      c.write_address-end.auto.text,
      length-address_text c.address.result,
      text_length-bits c.len.result few,
    )

pub returns-clause-written : goal.returns-clause-written
returns-clause-written c =
    let text = c.args.text.now in
    let same : address_text c.address.result ++ 47 ∷ decimal c.len.result ≡ side_text c.args.side.now =
    ap (λ (a : ℕ). address_text a ++ 47 ∷ decimal c.len.result) c.address.ensures
    ∙ ap (λ (n : ℕ). address_text (address_of c.args.side.now) ++ 47 ∷ decimal n) c.len.ensures.len in
    let within : c.write_address-end.result ≤ length text =
    omega (arith, c.requires, c.write_address-end.ensures.ends, length-address_text c.address.result) in
    written_part-same text c.write_behind.new.text c.args.at c.write_behind.result _ _ same
    (written_parts-joined text c.write_address-end.new.text c.write_behind.new.text c.args.at c.write_address-end.result
    c.write_behind.result
    (address_text c.address.result) (47 ∷ decimal c.len.result) within c.write_address-end.ensures
    c.write_behind.ensures)

pub returns-clause-short : goal.returns-clause-short
returns-clause-short c =
    let few : c.len.result ≤ 32 = omega (arith, c.len.ensures.len, c.len.ensures.leading.few) in
    omega (
      arith,
      c.write_address-end.ensures.ends,
      c.write_behind.ensures.ends,
      length-address_text c.address.result,
      text_length-bits c.len.result few,
    )
