-- Each test is the one with the row's number, and row 3 has no pass number.
use Rattle.arithmetic.proofs.Basics.{ℕ, ◌-◌, ◌≤◌, ◌<◌, arith, ◌≡◌, refl, ◌∙◌, true, false, eqb, List, get_or, eq-eqb, ne_eqb, le-leb, lt-leb}
use Rattle.rules.specs.Plans.{attributes, last_row_lem, fail, undecided, decide, attributes_passes, attributes_fails}
use Rattle.tables.specs.Tables.{PassNumbers, FailNumbers}
use Rattle.rows.specs.Ranges.{RowRange}
use Rattle.rows.proofs.attributes_row.Goals as goal
use Rattle.rows.proofs.attributes_row.Goals.{then-n-ge4+else-over-pass, else-n-ge4}

module _ {n : ℕ} (row : RowRange n) (over : ℕ) where
  module _ {pass : List ℕ} (numbers : PassNumbers pass) where
    passes : 4 ≤ n → over ≤ get_or pass (n - 4) 0 → attributes_passes n over ≡ true
    passes h l = numbers.passes n h row.most over ∙ le-leb over _ l

    passes-not : 4 ≤ n → get_or pass (n - 4) 0 < over → attributes_passes n over ≡ false
    passes-not h l = numbers.passes n h row.most over ∙ lt-leb over _ l

  -- "never at n = 3"
  never-at-three : n < 4 → attributes_passes n over ≡ false
  unfolding attributes_passes
  never-at-three l = let e : n ≡ 3 = omega (arith, row.least) in rw e refl

  -- a row before the last that doesn't pass
  module _ {xs : List ℕ} (numbers : FailNumbers xs) (e : n ≡ 19 → ⊥) (p : attributes_passes n over ≡ false) where
    fails : get_or xs (n - 3) 0 ≤ over → fail ≡ decide (attributes_passes n over) (eqb n (last_row_lem attributes)) (attributes_fails n over)
    unfolding decide
    fails l = rw (p, ne_eqb n 19 e, numbers.fails n row.least row.most over, le-leb (get_or xs (n - 3) 0) over l) refl

    opens : over < get_or xs (n - 3) 0 → undecided ≡ decide (attributes_passes n over) (eqb n (last_row_lem attributes)) (attributes_fails n over)
    unfolding decide
    opens l = rw (p, ne_eqb n 19 e, numbers.fails n row.least row.most over, lt-leb (get_or xs (n - 3) 0) over l) refl

pub returns-then-over-pass : goal.returns-then-over-pass
unfolding decide
returns-then-over-pass c = rw (passes c.requires.row_range _ c.requires.pass_numbers (omega (arith, c.if-n-ge4.true)) c.if-over-pass.true) refl

pub returns-then-n : goal.returns-then-n
unfolding decide
returns-then-n c =
    let r = c.requires.row_range in
    let p : attributes_passes c.args.n c.args.over ≡ false = elim c.if-n-ge4.branch [
      | then-n-ge4+else-over-pass w ↦ passes-not r _ c.requires.pass_numbers (omega (arith, w.if-n-ge4.true)) w.if-over-pass.false
      | else-n-ge4 w ↦ never-at-three r _ (omega (arith, w.if-n-ge4.false))
    ] in
    rw (p, eq-eqb _ _ c.if-n.true) refl

pub returns-then-fail-n : goal.returns-then-fail-n
returns-then-fail-n c =
    let r = c.requires.row_range in
    let p : attributes_passes c.args.n c.args.over ≡ false = elim c.if-n-ge4.branch [
      | then-n-ge4+else-over-pass w ↦ passes-not r _ c.requires.pass_numbers (omega (arith, w.if-n-ge4.true)) w.if-over-pass.false
      | else-n-ge4 w ↦ never-at-three r _ (omega (arith, w.if-n-ge4.false))
    ] in
    fails r _ c.requires.fail_numbers c.if-n.false p (omega (arith, c.if-fail-n.true))

pub returns : goal.returns
returns c =
    let r = c.requires.row_range in
    let p : attributes_passes c.args.n c.args.over ≡ false = elim c.if-n-ge4.branch [
      | then-n-ge4+else-over-pass w ↦ passes-not r _ c.requires.pass_numbers (omega (arith, w.if-n-ge4.true)) w.if-over-pass.false
      | else-n-ge4 w ↦ never-at-three r _ (omega (arith, w.if-n-ge4.false))
    ] in
    opens r _ c.requires.fail_numbers c.if-n.false p (omega (arith, c.if-fail-n.false))
