-- The converter's loop: what is written so far, and behind it what the output held.
use Rattle.arithmetic.proofs.Basics.{ℕ, ◌+◌, ◌-◌, ◌*◌, ◌/◌, ◌≤◌, ◌<◌, mul-le-mul_left, add-one, arith, ◌≡◌, refl, sym, ap, ◌∙◌, List, ◌++◌, append_assoc}
use Rattle.arithmetic.proofs.Basics.{length, take, drop, replicate, length-append, length-drop, length-replicate, take_at, drop_at, drop-drop}
use Rattle.arithmetic.proofs.Basics.{length-take-le}
use borrow.Rule.Slice.PartMut.{put_mid}
use Rattle.rules.specs.Sheet.{pollutants, size}
use Rattle.accepted.specs.Sheets.{record_at_lem}
use Rattle.accepted.proofs.Sheets.{whole-inside}
use Rattle.sizes.specs.Recast.{recast_record}
use Rattle.sizes.proofs.Mapped.{mapped-start, mapped_next, mapped-length, length-recast}
use Rattle.converting.specs.Recasting.{recast, RecastRange}

-- ---- a part of the output

-- the bytes o with the part p from `at` on
abbrev pub put_at : (o : List ℕ) → (at : ℕ) → (p : List ℕ) → List ℕ
put_at o at p = take at o ++ (p ++ drop (at + length p) o)

-- M is written from the start on, and behind it stands what the output held
abbrev pub Written : (M held o : List ℕ) → Type 0
Written M held o = o ≡ M ++ drop (length M) held

written-more : (M held o p : List ℕ) (at : ℕ) → Written M held o → length M ≡ at → Written (M ++ p) held (put_at o at p)
written-more M held o p at h e =
    let rest : List ℕ = drop (length M) held in
    let d : drop (length M + length p) (M ++ rest) ≡ drop (length (M ++ p)) held =
    sym (drop-drop (length p) (length M) (M ++ rest)) ∙ ap (drop (length p)) (drop_at M rest (length M) refl) ∙ drop-drop (length p) (length M) held ∙ ap (λ (n : ℕ). drop n held) (sym (length-append M p)) in
    rw (h, ← e, take_at M rest (length M) refl, d) (sym (append_assoc M p (drop (length (M ++ p)) held)))

pub put-wrote : (o p : List ℕ) (at n : ℕ) → n ≡ length p → {y : List ℕ} → y ≡ p → put_mid at n o y ≡ put_at o at p
put-wrote o p at n m q = rw (q, m, drop-drop (length p) at o) refl

length-put : (o p : List ℕ) (at : ℕ) → at + length p ≤ length o → length (put_at o at p) ≡ length o
length-put o p at h =
    omega (
      arith,
      length-append (take at o) (p ++ drop (at + length p) o),
      length-append p (drop (at + length p) o),
      length-drop (at + length p) o,
      length-take-le at o (omega arith),
    )

-- ---- a record at a time

module _ (w e : ℕ) (b : List ℕ) where
  abbrev first : (k : ℕ) → List ℕ
  first k = recast w e (take (size w * k) b)

  pub record Reached (held : List ℕ) (k : ℕ) (o : List ℕ) : Type 0 where
    pub written : Written (first k) held o
    pub same_length : length o ≡ length held
    pub most : k ≤ length b / size w

  pub begin : (o : List ℕ) → Reached o 0 o
  begin o = record { written = rw (mapped-start w (recast_record pollutants e) b) refl; same_length = refl; most = omega arith }

  module _ {held : List ℕ} (range : RecastRange w e b held) where
    makes : (r : List ℕ) → length r ≡ size w → length (recast_record pollutants e r) ≡ 20 + e
    makes = length-recast w pollutants e range.wide

    module _ {k : ℕ} {o : List ℕ} (g : Reached held k o) (h : k < length b / size w) where
      -- there is room for one more
      pub room : (20 + e) * k + 20 + e ≤ length o
      room = omega (arith, g.same_length, range.room, mul-le-mul_left (20 + e) h)

      module _ {r : List ℕ} (re : r ≡ record_at_lem w b k) where
        pub long : 20 ≤ length r
        long =
            rw (re, length-take-le (size w) (drop (size w * k) b) (omega (arith, length-drop (size w * k) b, whole-inside w (length b) k h)))
            (omega (arith, range.wide))

        part_length : length (take 20 r) ≡ 20
        part_length = length-take-le 20 r long

        -- its first 20 bytes and the zeros are written from byte `at` on
        module _ {at : ℕ} (ae : at ≡ (20 + e) * k) {part one : List ℕ} (pe : part ≡ take 20 r) (oe : one ≡ put_mid at (at + 20 - at) o part) where
          first_put : one ≡ put_at o at (take 20 r)
          first_put = oe ∙ put-wrote o (take 20 r) at (at + 20 - at) (omega (arith, part_length)) pe

          one-length : length one ≡ length o
          one-length = ap length first_put ∙ length-put o (take 20 r) at (omega (arith, room, ae, part_length))

          -- the part for the zeros, as long as they are
          zeros-fit : length (take (at + 20 + e - (at + 20)) (drop (at + 20) one)) ≡ e
          zeros-fit =
              let n : at + 20 + e - (at + 20) ≡ e = omega arith in
              rw n (length-take-le e (drop (at + 20) one) (omega (arith, room, ae, one-length, length-drop (at + 20) one)))

          pub next : {zeros two : List ℕ} → zeros ≡ replicate (length (take (at + 20 + e - (at + 20)) (drop (at + 20) one))) 0
              → two ≡ put_mid (at + 20) (at + 20 + e - (at + 20)) one zeros → Reached held (k + 1) two
          next {zeros} {two} ze te =
              let z : length (replicate {A = ℕ} e 0) ≡ e = length-replicate {A = ℕ} e 0 in
              let q : two ≡ put_at one (at + 20) (replicate e 0) =
              te ∙ put-wrote one (replicate e 0) (at + 20) (at + 20 + e - (at + 20)) (omega (arith, z)) (rw zeros-fit at ze) in
              let m : length (first k) ≡ at = mapped-length w (recast_record pollutants e) b (20 + e) makes k range.whole g.most ∙ sym ae in
              let v : Written (first k ++ take 20 r) held one = rw first_put (written-more (first k) held o (take 20 r) at g.written m) in
              let u : Written ((first k ++ take 20 r) ++ replicate e 0) held two =
              rw q (written-more (first k ++ take 20 r) held one (replicate e 0) (at + 20) v (omega (arith, length-append (first k) (take 20 r), m, part_length))) in
              let x : first (k + 1) ≡ (first k ++ take 20 r) ++ replicate e 0 =
              rw (add-one k, re) (mapped_next w (recast_record pollutants e) b k range.whole h ∙ sym (append_assoc (first k) (take 20 (record_at_lem w b k)) (replicate e 0))) in
              record {
                written = rw x u;
                same_length = ap length q ∙ length-put one (replicate e 0) (at + 20) (omega (arith, z, room, ae, one-length)) ∙ one-length ∙ g.same_length;
                most = omega arith;
              }
