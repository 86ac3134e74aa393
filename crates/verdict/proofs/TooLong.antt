-- An input that is longer than the longest sheet is refused whatever it holds, so that the lines of its beginning are its lines.
use Rattle.arithmetic.proofs.Basics.{ℕ, ◌<◌, ◌≡◌, sym, ◌∙◌, subst, arith, Bool, List, [], ◌∷◌, ◌++◌, length, length-append, lt-ltb, or-true}
use Rattle.std.specs.Prelude.{Option, None, Some, IfSome}
use Rattle.std.specs.Io.KnownBytes.{Consumes}
use Rattle.rules.specs.Sheet.{pollutants, longest}
use Rattle.rules.specs.Refusals.{check, bad_length_lem}
use Rattle.rules.specs.Operations.{judge}
use Rattle.rules.specs.Printed.{printed, line, decimal, refused_word}
use Rattle.rules.specs.Logarithm.{squarings}
use Rattle.verdict.specs.Output.{Answered}

too-long : (b : List ℕ) → longest < length b → printed pollutants squarings b ≡ line (refused_word ∷ decimal 1 ∷ decimal 0 ∷ [])
unfolding printed judge check bad_length_lem
too-long b h = rw (lt-ltb longest (length b) h) (simp or-true)

same-lines : (b rest : List ℕ) → longest < length b → printed pollutants squarings b ≡ printed pollutants squarings (b ++ rest)
same-lines b rest h =
    let more : longest < length (b ++ rest) = simp length-append (omega arith) in
    too-long b h ∙ sym (too-long (b ++ rest) more)

pub beginning-answers : (known left : Option (List ℕ)) (b : List ℕ) (all : Bool) (old new : Option (List ℕ)) → Consumes known left b → longest < length b
    → Answered all old new (printed pollutants squarings b) → IfSome known (λ sheet. Answered all old new (printed pollutants squarings sheet))
beginning-answers None left b all old new read long h = tt
beginning-answers (Some xs) None b all old new read long h = absurd read
beginning-answers (Some xs) (Some rest) b all old new read long h =
    subst (λ sheet. Answered all old new (printed pollutants squarings sheet)) (sym read) (subst (Answered all old new) (same-lines b rest long) h)
