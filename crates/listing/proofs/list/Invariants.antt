-- `listing::list` meets its contract. At each turn the rows up to p are read, and the output is the admitted of them, over what was there.
use Rattle.std.proofs.Common.{ℕ, ◌-◌, ◌*◌, ◌/◌, ◌≤◌, ◌≡◌, List, length}
use Rattle.meaning.specs.Values.{Contents}
use Rattle.meaning.specs.Sheets.{table_at}
use Rattle.meaning.specs.Reading.{Row, found, read_rows}
use Rattle.rows.specs.Held.{held}
use Rattle.listing.specs.Ready.{Ready}
use Rattle.listing.proofs.RowLaws.{Listing}
use Rattle.listing.proofs.list.Given as goal

abbrev pub invariant-loop-p : goal.invariant-loop-p
invariant-loop-p l = record {
  inside : l.p ≤ length l.rows * 8;
  written : l.at ≤ l.p / 8;
  counted : l.count ≤ l.p;
  lists : (t command : ℕ) (key : Contents) (rs : List Row) (q : ℕ) → Ready l.plan l.form l.a t command key (held l.initial.vars) → read_rows l.a (table_at l.a t) l.rows ≡ found rs q
      → Ready l.plan l.form l.a t command key (held l.vars) × Listing l.a t command key l.rows l.p l.initial.out l.at l.count l.out;
}

abbrev pub decreases-loop-p : goal.decreases-loop-p
decreases-loop-p l = length l.rows * 8 - l.p
