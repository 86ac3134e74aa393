-- Of an error of the system's, its kind says what its number does: EINTR is 4, EAGAIN is 11.
use Rattle.arithmetic.proofs.Basics.{ℕ, Bool, true, false, cond, ◌≡◌, sym, List, [], ◌∷◌, refl, eqb, eqb-true, le-ltb, arith, by-test}
use Rattle.std.proofs.lemmas.Bool.{false≢true}
use Rattle.std.specs.Prelude.{ℤ, pos, negsuc, Option, Some, None, ◌==◌, if◌then◌else◌, is_none}
use Rattle.std.specs.IoError.{os_error_kind, os_error_kinds, kind_in}
use Rattle.std.specs.declared.io.ErrorKind.{ErrorKind}
use Rattle.transfers.specs.Transfers.{pause_before}

-- whether there is a pause before a call is made again that failed with this number
abbrev pub pause_by_number : ℤ → Option Bool
pause_by_number (pos n) = cond (eqb n 4) (Some false) (cond (eqb n 11) (Some true) None)
pause_by_number (negsuc n) = None

-- every other number of a list of kinds fails for good
abbrev quiet : List (ℕ × ErrorKind) → Bool
quiet [] = true
quiet (row ∷ rows) = cond (cond (eqb row.0 4) true (cond (eqb row.0 11) true (is_none (pause_before row.1)))) (quiet rows) false

none_is : (o : Option Bool) → is_none o ≡ true → o ≡ None
none_is None h = refl
none_is (Some b) h = absurd (false≢true h)

both : (a b : Bool) → cond a b false ≡ true → (a ≡ true) × (b ≡ true)
both true b h = (refl, h)
both false b h = absurd (false≢true h)

quiet-none : (rows : List (ℕ × ErrorKind)) (n : ℕ) → quiet rows ≡ true → eqb n 4 ≡ false → eqb n 11 ≡ false → pause_before (kind_in rows n) ≡ None
quiet-none [] n h f g = refl
quiet-none (row ∷ rows) n h f g =
    let q : (cond (eqb row.0 4) true (cond (eqb row.0 11) true (is_none (pause_before row.1))) ≡ true) × (quiet rows ≡ true) = both _ _ h in
    by-test (λ t. pause_before (if t then row.1 else kind_in rows n) ≡ None) (n == row.0)
    (λ e. let same : row.0 ≡ n = sym (eqb-true n row.0 e) in none_is _ (rw (same, f, g) at q.0))
    (λ e. quiet-none rows n q.1 f g)

pub by_number : (code : ℤ) → pause_before (os_error_kind code) ≡ pause_by_number code
unfolding os_error_kind
by_number (negsuc n) = refl
by_number (pos n) =
    by-test (λ t. eqb n 4 ≡ t → pause_before (os_error_kind (pos n)) ≡ cond t (Some false) (cond (eqb n 11) (Some true) None)) (eqb n 4)
    (λ e h. rw (eqb-true n 4 h) refl)
    (λ e h. by-test (λ t. eqb n 11 ≡ t → pause_before (os_error_kind (pos n)) ≡ cond t (Some true) None) (eqb n 11)
    (λ e2 g. rw (eqb-true n 11 g) refl)
    (λ e2 g. rw (le-ltb n 0 (omega arith)) (quiet-none os_error_kinds n refl h g)) refl) refl
