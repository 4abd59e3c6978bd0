-- Numbers of lines that are kept under codes.
use Rattle.std.specs.Prelude.{ℕ, ◌<◌, List, [], Option, None, Some, Vec, vec_len, vec_capacity}
use Rattle.std.specs.declared.alloc.Global.{Global}
use Rattle.std.specs.Ordering.{nat_cmp}
use Rattle.std.specs.BTreeMap.{BTreeMap, get}

-- the numbers that are kept, if some are
abbrev pub line_numbers : Option (Vec ℕ Global) → List ℕ
line_numbers None = []
line_numbers (Some numbers) = numbers.items

-- the numbers that are kept under a code
abbrev pub line_numbers_at : BTreeMap ℕ (Vec ℕ Global) → ℕ → List ℕ
line_numbers_at kept code = line_numbers (get nat_cmp kept code)

-- there are numbers, with room for one more
abbrev pub HaveRoom : Option (Vec ℕ Global) → Type 0
HaveRoom None = ⊥
HaveRoom (Some numbers) = vec_len numbers < vec_capacity numbers

-- one more number can be kept under a code without more memory
abbrev pub HasRoomFor : BTreeMap ℕ (Vec ℕ Global) → ℕ → Type 0
HasRoomFor kept code = HaveRoom (get nat_cmp kept code)
