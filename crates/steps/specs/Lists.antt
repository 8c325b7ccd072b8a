-- What a few elements by value are, in a row; the order of two things; the kinds of variables by their numbers.
use Rattle.std.specs.Prelude.{ℕ, Bool, cond, List, ◌++◌, length, take, get_or, eqb}
use Rattle.std.specs.declared.cmp.Ordering.{Ordering}
use Rattle.std.specs.declared.cmp.Ordering.TheVariants.{Less, Equal, Greater}
use Rattle.lists.specs.Lists.{each}
use Rattle.bits.specs.Bits.{bits}
use Rattle.meaning.specs.Values.{Kind, integer, token, boolean}
use Rattle.meaning.specs.Packed.{value_bits}
use Rattle.steps.specs.declared.few.Few.{Few}

-- the elements, in their order
abbrev pub elements : {A : Type 0} → Few A → List A
elements f = take f.count f.items

-- how two things stand to each other, where `before` says which stands before which
abbrev pub compared : {A : Type 0} → (A → A → Bool) → A → A → Ordering
compared before x y = cond (before x y) Less (cond (before y x) Greater Equal)

-- "0 integer, 1 token, 2 boolean"
abbrev pub kind_from : ℕ → Kind
kind_from n = cond (eqb n 0) integer (cond (eqb n 1) token boolean)

-- the kind of a variable, where the kinds stand by their numbers; integer where there is no such variable
unfoldable pub kind_by : List ℕ → ℕ → Kind
kind_by kinds v = kind_from (get_or kinds v 0)

-- a list's count and values, as an atom has them
abbrev pub list_bits : Kind → List ℕ → List ℕ
list_bits k ns = bits 4 (length ns) ++ each (value_bits k) ns
