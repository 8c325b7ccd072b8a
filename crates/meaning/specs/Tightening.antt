-- Sheets with further restrictive or fewer permissive policies. (01, "Values and meaning"; document 02 builds on it)
use Rattle.std.specs.Prelude.{◌≡◌, true, false, List, [], ◌∷◌}
use Rattle.meaning.specs.Sheets.{Policy, Sheet}

-- Tightens ps qs: qs is ps with some permissive policies taken out and some restrictive ones added, anywhere
pub data Tightens : List Policy → List Policy → Type 0 where
  done : Tightens [] []
  same : {p : Policy} {ps qs : List Policy} → Tightens ps qs → Tightens (p ∷ ps) (p ∷ qs)
  taken_out : {p : Policy} {ps qs : List Policy} → p.restrictive ≡ false → Tightens ps qs → Tightens (p ∷ ps) qs
  added : {q : Policy} {ps qs : List Policy} → q.restrictive ≡ true → Tightens ps qs → Tightens ps (q ∷ qs)

-- the second sheet differs from the first by these alone
pub record Tighter (sheet other : Sheet) : Type 0 where
  pub columns : other.columns ≡ sheet.columns
  pub keys : other.keys ≡ sheet.keys
  pub tables : other.tables ≡ sheet.tables
  pub policies : Tightens sheet.policies other.policies
