use Rattle.std.proofs.Common.{◌≡◌, ℕ, ◌+◌, ◌/◌, ◌%◌, ◌≤◌, List, ◌∷◌, ◌++◌, length, get_or, decimal, sym, ap, ◌∙◌}
use Rattle.std.proofs.Common.{arith, subst}
use Rattle.prefix_lattice.proofs.WrittenPartLemmas.{written_part-same, written_part-numbers}
use Rattle.prefix_lattice.proofs.side_writing.write_address.Goals as goal

pub returns : goal.returns
returns c =
    let address = c.args.address in
    let bytes = c.to_be_bytes.result in
    let text = c.args.text.now in
    let first : get_or bytes 0 0 ≡ address / 256 / 256 / 256 % 256 =
    omega (arith, ap (λ l. get_or l 0 0) c.to_be_bytes.ensures) in
    let second : get_or bytes 1 0 ≡ address / 256 / 256 % 256 =
    omega (arith, ap (λ l. get_or l 1 0) c.to_be_bytes.ensures) in
    let third : get_or bytes 2 0 ≡ address / 256 % 256 = ap (λ l. get_or l 2 0) c.to_be_bytes.ensures in
    let fourth : get_or bytes 3 0 ≡ address % 256 = ap (λ l. get_or l 3 0) c.to_be_bytes.ensures in
    let written : ℕ → ℕ → ℕ → ℕ → List ℕ =
    λ a b c d. decimal a ++ 46 ∷ (decimal b ++ 46 ∷ (decimal c ++ 46 ∷ decimal d)) in
    let same : written (get_or bytes 0 0) (get_or bytes 1 0) (get_or bytes 2 0) (get_or bytes 3 0)
    ≡ written (address / 256 / 256 / 256 % 256) (address / 256 / 256 % 256) (address / 256 % 256) (address % 256) =
    ap (λ n. written n (get_or bytes 1 0) (get_or bytes 2 0) (get_or bytes 3 0)) first
    ∙ ap (λ n. written (address / 256 / 256 / 256 % 256) n (get_or bytes 2 0) (get_or bytes 3 0)) second
    ∙ ap (λ n. written (address / 256 / 256 / 256 % 256) (address / 256 / 256 % 256) n (get_or bytes 3 0)) third
    ∙ ap (λ n. written (address / 256 / 256 / 256 % 256) (address / 256 / 256 % 256) (address / 256 % 256) n) fourth in
    let room : c.args.at
    + length (written (get_or bytes 0 0) (get_or bytes 1 0) (get_or bytes 2 0) (get_or bytes 3 0)) ≤ length text =
    subst (λ (l : List ℕ). c.args.at + length l ≤ length text) (sym same) c.requires in
    written_part-same text c.write_behind.new.text c.args.at c.write_behind.result _ _ same
    (written_part-numbers text c.write_number-end.new.text c.write_behind-end.new.text c.write_behind-end-2.new.text
    c.write_behind.new.text 46 c.args.at
    c.write_number-end.result c.write_behind-end.result c.write_behind-end-2.result c.write_behind.result
    (get_or bytes 0 0) (get_or bytes 1 0) (get_or bytes 2 0) (get_or bytes 3 0)
    c.write_number-end.auto.text (c.write_behind-end.auto.text ∙ c.write_number-end.auto.text) room
    c.write_number-end.ensures c.write_behind-end.ensures c.write_behind-end-2.ensures c.write_behind.ensures)
