-- Each of the four numbers goes its own way through the loop, as the one of `log2` does.
use Rattle.arithmetic.proofs.Basics.{ℕ, ◌≤◌, ◌<◌, ◌≡◌, refl, List, [], ◌∷◌, map, length, get_or, arith, rules}
use Rattle.rules.specs.Logarithm.{squarings, g}
use Rattle.logarithm.proofs.Bounds.{at-start, at_next, at-fits, at-end}
use Rattle.logarithm.proofs.log2_four.Goals as goal

pub loop-init : goal.loop-init
loop-init c =
    let m = c.requires in
    (at-start m.a c.start-a.ensures, at-start m.b c.start-b.ensures, at-start m.c c.start-c.ensures, at-start m.d c.start-d.ensures)

pub squared-a-requires : goal.squared-a-requires
squared-a-requires c = at-fits c.loop.invariant.0 (omega arith)

pub squared-b-requires : goal.squared-b-requires
squared-b-requires c = at-fits c.loop.invariant.1 (omega arith)

pub squared-c-requires : goal.squared-c-requires
squared-c-requires c = at-fits c.loop.invariant.2 (omega arith)

pub squared-d-requires : goal.squared-d-requires
squared-d-requires c = at-fits c.loop.invariant.3 (omega arith)

pub loop-preserved : goal.loop-preserved
loop-preserved c =
    let i = c.loop.invariant in
    let l : c.loop.counter < squarings = omega arith in
    (at_next i.0 l c.squared-a.ensures, at_next i.1 l c.squared-b.ensures, at_next i.2 l c.squared-c.ensures, at_next i.3 l c.squared-d.ensures)

-- four numbers one by one
each-of-four : (f : ℕ → ℕ) (m : List ℕ) → length m ≡ 4 → f (get_or m 0 0) ∷ f (get_or m 1 0) ∷ f (get_or m 2 0) ∷ f (get_or m 3 0) ∷ [] ≡ map f m
each-of-four f [] e = absurd (omega arith)
each-of-four f (x ∷ []) e = absurd (omega arith)
each-of-four f (x ∷ y ∷ []) e = absurd (omega arith)
each-of-four f (x ∷ y ∷ z ∷ []) e = absurd (omega arith)
each-of-four f (x ∷ y ∷ z ∷ u ∷ []) e = refl
each-of-four f (x ∷ y ∷ z ∷ u ∷ v ∷ xs) e = absurd (omega arith)

pub returns : goal.returns
returns c =
    let m = c.requires in
    let i = c.loop.invariant in
    let l : squarings ≤ c.loop.counter = omega arith in
    rw (at-end i.0 l m.a c.start-a.ensures, at-end i.1 l m.b c.start-b.ensures)
    (rw (at-end i.2 l m.c c.start-c.ensures, at-end i.3 l m.d c.start-d.ensures) (each-of-four (g squarings) c.args.m (search rules)))
