-- What a loop over the records of w pollutants writes, f of each: its records, its length, and a record at a time.
-- Widening and narrowing are both such, with f the first bytes and then zeros.
use Rattle.arithmetic.proofs.Basics.{ℕ, suc, ◌+◌, ◌*◌, ◌/◌, ◌%◌, ◌≤◌, ◌<◌, arith, ◌≡◌, refl, sym, ap, ◌∙◌, List, [], ◌∷◌, ◌++◌, map, append_assoc, append-nil}
use Rattle.arithmetic.proofs.Basics.{length, get_or, take, drop, replicate, length-append, length-map, length-replicate, length-take-le, take-suc, take_all, map-append, take-map}
use Rattle.rules.specs.Sheet.{Record, size, records}
use Rattle.rules.specs.Converter.{joined_bytes, widened_record, narrowed_record, widen, narrow}
use Rattle.accepted.proofs.Records.{record-at, length-records}
use Rattle.sizes.specs.Recast.{recast_record, mapped}
use Rattle.sizes.proofs.Joined.{Full, full-map, map-full, length-joined, take-joined, full-records, records-joined, records-take}

joined-append : (rs ts : List Record) → joined_bytes (rs ++ ts) ≡ joined_bytes rs ++ joined_bytes ts
joined-append [] ts = refl
joined-append (r ∷ rs) ts = rw (joined-append rs ts) (sym (append_assoc r (joined_bytes rs) (joined_bytes ts)))

-- ---- where f makes records of t bytes

module _ (w t : ℕ) (f : Record → Record) (makes : (r : Record) → length r ≡ size w → length (f r) ≡ t) (b : List ℕ) where
  full-mapped : Full t (map f (records w b))
  full-mapped = full-map (size w) t f makes (records w b) (full-records w b)

  pub length-mapped : length (mapped w f b) ≡ t * length (records w b)
  length-mapped = length-joined t (map f (records w b)) full-mapped ∙ ap (λ (n : ℕ). t * n) (length-map (records w b) f)

  -- the first m records of the one are those of the other
  pub take-mapped : (m : ℕ) → length b % size w ≡ 0 → take (t * m) (mapped w f b) ≡ mapped w f (take (size w * m) b)
  take-mapped m h = take-joined t m (map f (records w b)) full-mapped ∙ rw (take-map f m (records w b), records-take w m b h) refl

pub records-mapped : (w v : ℕ) (f : Record → Record) → ((r : Record) → length r ≡ size w → length (f r) ≡ size v) → (b : List ℕ)
    → records v (mapped w f b) ≡ map f (records w b)
records-mapped w v f makes b = records-joined v (map f (records w b)) (full-mapped w (size v) f makes b)

-- ---- a record at a time

module _ (w : ℕ) (f : Record → Record) (b : List ℕ) where
  pub mapped-start : mapped w f (take (size w * 0) b) ≡ []
  mapped-start = let e : size w * 0 ≡ 0 = omega arith in rw (e, records-joined w [] tt) refl

  pub mapped_next : (j : ℕ) → length b % size w ≡ 0 → j < length b / size w
      → mapped w f (take (size w * suc j) b) ≡ mapped w f (take (size w * j) b) ++ f (take (size w) (drop (size w * j) b))
  mapped_next j h l =
      rw (
        records-take w (suc j) b h,
        records-take w j b h,
        take-suc (records w b) j [] (rw (length-records w b) l),
        map-append f (take j (records w b)) (get_or (records w b) j [] ∷ []),
        joined-append (map f (take j (records w b))) (f (get_or (records w b) j []) ∷ []),
        record-at w b j l,
        append-nil (f (take (size w) (drop (size w * j) b))),
      ) refl

  pub mapped_end : (j : ℕ) → length b % size w ≡ 0 → length b / size w ≤ j → mapped w f (take (size w * j) b) ≡ mapped w f b
  mapped_end j h l = rw (records-take w j b h, take_all j (records w b) (rw (length-records w b) l)) refl

  -- where f makes records of t bytes, j records are t × j bytes
  pub mapped-length : (t : ℕ) → ((r : Record) → length r ≡ size w → length (f r) ≡ t) → (j : ℕ) → length b % size w ≡ 0 → j ≤ length b / size w
      → length (mapped w f (take (size w * j) b)) ≡ t * j
  mapped-length t makes j h l =
      length-mapped w t f makes (take (size w * j) b)
      ∙ ap (λ (n : ℕ). t * n) (ap length (records-take w j b h) ∙ length-take-le j (records w b) (rw (length-records w b) l))

-- ---- the first bytes, and then zeros

pub length-recast : (w v e : ℕ) → v ≤ w → (r : Record) → length r ≡ size w → length (recast_record v e r) ≡ size v + e
length-recast w v e h r l = rw (length-append (take (size v) r) (replicate e 0), length-take-le (size v) r (omega arith), length-replicate {A = ℕ} e 0) refl

pub widen-recast : (w k : ℕ) (b : List ℕ) → widen w k b ≡ mapped w (recast_record w (4 * k)) b
unfolding widen
widen-recast w k b =
    ap joined_bytes (map-full (size w) (widened_record k) (recast_record w (4 * k)) (λ r e. rw (take_all (size w) r (omega arith)) refl) (records w b) (full-records w b))

pub narrow-recast : (w k : ℕ) (b : List ℕ) → narrow w k b ≡ mapped (w + k) (recast_record w 0) b
unfolding narrow
narrow-recast w k b =
    ap joined_bytes (map-full (size (w + k)) (narrowed_record w) (recast_record w 0) (λ r e. sym (append-nil (take (size w) r))) (records (w + k) b) (full-records (w + k) b))
