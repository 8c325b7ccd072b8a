-- The first i tables are written.
use Rattle.std.proofs.Common.{arith, rules, refl, ◌≡◌, ◌<◌, ◌++◌, ap, sym, subst, length, take}
use native.Mathlib.Numerals.{add-one}
use lib.Seq.{take-suc}
use Rattle.lists.specs.Lists.{each}
use Rattle.lists.proofs.ListLaws.{all_at}
use Rattle.meaning.specs.Sheets.{table_at}
use Rattle.meaning.specs.Packed.{table_bits}
use Rattle.meaning.specs.Allowed.{TableAllowed}
use Rattle.sheet.specs.Directory.{table_of}
use Rattle.packing.proofs.WroteLaws.{wrote_starts, wrote_as, wrote_more, wrote_all}
use Rattle.normal.proofs.write_tables.Goals as goal

pub loop-i-init : goal.loop-i-init
loop-i-init c = let a = c.args in
    record { same = refl; written = λ o bs w. wrote_starts o bs table_bits a.sheet.now.tables a.w.now.out.now a.w.now.bits w }

pub loop-i-preserved : goal.loop-i-preserved
loop-i-preserved c = let l = c.loop-i in
    let i = l.i in
    let sheet = c.args.sheet.now in
    let ts = sheet.tables in
    let n = c.tables-i-end.ensures in
    let m = length sheet.columns in
    let after = c.write_table.new.w.out.now in
    let end = c.write_table.new.w.bits in
    let t : i < length ts = omega (arith, n.number, c.loop-i-test.true) in
    let f : table_of c.table.result ≡ table_at sheet i = c.table.ensures t in
    record {
      same = search rules;
      written = λ o bs w. wrote_more o bs table_bits ts after end i (table_at sheet i) (rw add-one (take-suc ts i _ t))
          (wrote_as o (bs ++ each table_bits (take i ts)) (table_bits (table_of c.table.result)) (table_bits (table_at sheet i)) after end (ap table_bits f)
          (c.write_table.ensures.wrote o (bs ++ each table_bits (take i ts)) m (l.invariant.written o bs w) (subst (TableAllowed m) (sym f) (all_at (TableAllowed m) _ ts i t n.allowed.each_table))));
    }

pub returns-clause-wrote : goal.returns-clause-wrote
returns-clause-wrote c = let l = c.loop-i in
    λ o bs w. wrote_all o bs table_bits c.args.sheet.now.tables l.w.out.now l.w.bits l.i (omega (arith, c.tables-i-end.ensures.number, c.loop-i-test.false)) (l.invariant.written o bs w)
