-- The engines of a new four are the next, and an engine that is left alone stands in place 0.
use Rattle.arithmetic.proofs.Basics.{ℕ, ◌+◌, ◌%◌, ◌<◌, arith, div-add-mod, ◌≡◌, ap, ◌∙◌, List, length, set, length-set, get_or-set_same}
use Rattle.rules.specs.Logarithm.{squarings, g}
use Rattle.fours.specs.Fours.{measured_or, Logs}
use Rattle.fours.proofs.Places.{measured-in, or-ranges, place_is}
use Rattle.fours.proofs.four_with.Goals as goal

-- one engine is left
one_left : {logs : List ℕ} {w : ℕ} {b : List ℕ} {start p rows i : ℕ} → Logs logs w b start p rows i → (i + 1) % 4 ≡ 0 → i + 1 ≡ rows
    → {x y : ℕ} → x ≡ measured_or w b start p rows i → y ≡ g squarings x → Logs (set logs 0 y) w b start p rows (i + 1)
one_left {logs} {w} {b} {start} {p} {rows} {i} s z l xe ye =
    let in-room : 0 < length logs = omega (arith, s.room) in
    record {
      room = length-set logs 0 _ ∙ s.room;
      each = λ k e h.
          let q : k ≡ i = omega (arith, div-add-mod (k + 1) 4, div-add-mod (i + 1) 4) in
          let first : (k + 1) % 4 ≡ 0 = omega arith in
          rw (first, q) (get_or-set_same logs 0 _ 0 in-room ∙ ye ∙ ap (g squarings) (xe ∙ measured-in w b start p rows (omega arith)));
    }

pub put_four-requires : goal.put_four-requires
put_four-requires c =
    record { number = rw c.measured_or_one-x.ensures (or-ranges _ _ _ _ _ c.args.column.in_range _); some = omega (arith, c.requires.some) }

pub returns-then-i-column : goal.returns-then-i-column
returns-then-i-column c = one_left c.requires.last c.if-i-eq0.true c.if-i-column.true c.measured_or_one-x.ensures c.log2.ensures

pub returns-else-i-column : goal.returns-else-i-column
returns-else-i-column c =
    let i = c.args.i in
    place_is _ _ _ _ _ _ (i + 1) (i + 1) (omega (arith, c.if-i-eq0.true, div-add-mod (i + 1) 4))
    (λ k e. let q : k ≡ i = omega arith in rw q (c.measured_or_one-x.ensures ∙ measured-in _ _ _ _ _ c.requires.some)) c.put_four.ensures
