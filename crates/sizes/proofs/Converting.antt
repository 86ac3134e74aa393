-- F-10: "Stored 20-byte sheets stay readable, and a converter carries accepted sheets both ways". About the bytes of whole sheets, for every
-- number w of pollutants, every k added to it and every q; the product's are at the end.
use Rattle.arithmetic.proofs.Basics.{ℕ, ◌+◌, ◌%◌, ◌≤◌, arith, ◌≡◌, refl, sym, ap, ◌∙◌, Bool, true, false, cond, List, ◌++◌, eqb, ltb, length, take, drop, replicate}
use Rattle.arithmetic.proofs.Basics.{length-append, length-drop, take-append_seam, drop-append_seam, eq-eqb, ne_eqb, le-ltb, ltb-false, never}
use Rattle.rules.specs.Logarithm.{squarings}
use Rattle.rules.specs.Sheet.{pollutants, more_pollutants, size, most, records}
use Rattle.rules.specs.Series.{pair, Answer, refusal, judgement}
use Rattle.rules.specs.Refusals.{accepted, refused, check}
use Rattle.rules.specs.Operations.{judge, evidence, report_bytes}
use Rattle.rules.specs.Demands.{Says, Accepted}
use Rattle.rules.specs.Sizes.{open_pairs}
use Rattle.rules.specs.Converter.{widened_record, widen, narrow, declares_above, room_for, widening, narrowing, convert, other_form, converted, added_pollutants}
use Rattle.accepted.proofs.Faultless.{sound, cond-accepted, then-accepted}
use Rattle.answers.proofs.Answers.{judgement-accepted}
use Rattle.sizes.proofs.Columns.{report-columns}
use Rattle.sizes.proofs.Sheets as sheets

-- ---- answers with more pairs

open-says : (k v n : ℕ) (a : Answer) → Says a v n → Says (open_pairs k a) v n
open-says k v n a s = (s.0, s.1 ++ replicate k (pair 0 0), ap (open_pairs k) s.2)

says-open : (k v n : ℕ) (a : Answer) → Says (open_pairs k a) v n → Says a v n
says-open k v n (refusal number place) s = let z : true ≡ false = cc s.2 in never z
says-open k v n (judgement v' n' grounds ps) s =
    let e : v' ≡ v = cc s.2 in
    let f : n' ≡ n = cc s.2 in
    (grounds, ps, rw (e, f) refl)

module _ (w k q : ℕ) where
  -- ---- A sheet accepted at w: its widened form

  module _ (b : List ℕ) (a : Accepted w q b) where
    checked : check w b ≡ accepted
    checked = judgement-accepted w q b a.2.2

    -- is judged alike: verdict, engine, ground and the first w pairs equal, the others open;
    pub widened-judged : judge (w + k) q (widen w k b) ≡ open_pairs k (judge w q b)
    widened-judged = sheets.widen-judged w k b checked q

    -- is accepted, and says what the sheet says;
    pub widened-accepted : Accepted (w + k) q (widen w k b)
    widened-accepted = (a.0, a.1, rw widened-judged (open-says k a.0 a.1 (judge w q b) a.2))

    -- has the widened evidence and the widened report;
    pub widened-evidence : evidence (w + k) q (widen w k b) ≡ widen w k (evidence w q b)
    widened-evidence = sheets.widen-evidence w k b checked q

    pub widened-report : report_bytes (w + k) (judge (w + k) q (widen w k b)) ≡ widened_record k (report_bytes w (judge w q b))
    widened-report = rw (widened-judged, a.2.2) (report-columns w k a.0 a.1 a.2.0 a.2.1)

    -- declares none above w;
    pub widened-undeclared : declares_above w k (widen w k b) ≡ false
    widened-undeclared = sheets.widen-undeclared w k b checked

    -- and, narrowed again, is the sheet.
    pub widened-narrowed : narrow w k (widen w k b) ≡ b
    widened-narrowed = sheets.narrow-widen w k b (sound w b checked).whole

  -- ---- A sheet accepted at w + k that declares no pollutant above w: its narrowed form
  -- (The bytes of a limit and a deviation, or of a speed and a date, 4 to 11, lie in a record where the format has room for two pollutants.)

  module _ (room : 2 ≤ w) (b : List ℕ) (a : Accepted (w + k) q b) (o : declares_above w k b ≡ false) where
    checked-wide : check (w + k) b ≡ accepted
    checked-wide = judgement-accepted (w + k) q b a.2.2

    -- is judged alike;
    pub narrowed-judged : judge (w + k) q b ≡ open_pairs k (judge w q (narrow w k b))
    narrowed-judged = sheets.narrow-judged w k room b checked-wide o q

    -- is accepted, and says what the sheet says;
    pub narrowed-accepted : Accepted w q (narrow w k b)
    narrowed-accepted = (a.0, a.1, says-open k a.0 a.1 (judge w q (narrow w k b)) (rw narrowed-judged at a.2))

    -- has no more records than the smaller size holds, and the narrowed evidence;
    pub narrowed-few : length (records (w + k) b) ≤ most w
    narrowed-few = sheets.narrow-few w k room b checked-wide o

    pub narrowed-evidence : evidence w q (narrow w k b) ≡ narrow w k (evidence (w + k) q b)
    narrowed-evidence = sheets.narrow-evidence w k room b checked-wide o q

    -- and, widened again, is the sheet.
    pub narrowed-widened : widen w k (narrow w k b) ≡ b
    narrowed-widened = sheets.widen-narrow w k room b checked-wide o

-- "there and back gives the sheet": for any whole number of records, accepted or not
pub there_and_back : (w k : ℕ) (b : List ℕ) → length b % size w ≡ 0 → narrow w k (widen w k b) ≡ b
there_and_back = sheets.narrow-widen

-- ---- The converter

module _ (w k s : ℕ) (b o : List ℕ) where
  -- a refused call writes nothing
  pub refused-keeps : (n p : ℕ) → convert w k s b o ≡ refused n p → converted w k s b o ≡ o
  unfolding converted
  refused-keeps n p e = rw e refl

  pub success-writes : convert w k s b o ≡ accepted → converted w k s b o ≡ other_form w k s b ++ drop (length (other_form w k s b)) o
  unfolding converted
  success-writes e = rw e refl

-- what is accepted of each part
room-accepted : (form o : List ℕ) → room_for form o ≡ accepted → length form ≤ length o
room-accepted form o e = ltb-false (length o) (length form) (cond-accepted 32 (ltb (length o) (length form)) accepted e).0

accepted-room : (form o : List ℕ) → length form ≤ length o → room_for form o ≡ accepted
accepted-room form o h = rw (le-ltb (length o) (length form) h) refl

module _ (w k : ℕ) (b o : List ℕ) where
  widening-accepted : widening w k b o ≡ accepted → (check w b ≡ accepted) × (length (widen w k b) ≤ length o)
  widening-accepted e =
      let t = then-accepted (check w b) (room_for (widen w k b) o) e in
      (t.0, room-accepted (widen w k b) o t.1)

  narrowing-accepted : narrowing w k b o ≡ accepted → (check (w + k) b ≡ accepted) × (declares_above w k b ≡ false) × (length (narrow w k b) ≤ length o)
  narrowing-accepted e =
      let t = then-accepted (check (w + k) b) _ e in
      let u = cond-accepted 31 (declares_above w k b) (room_for (narrow w k b) o) t.1 in
      (t.0, u.0, room-accepted (narrow w k b) o u.1)

module _ (w k : ℕ) where
  -- "the checks of a sheet, by its size"
  pub convert-wide : (b o : List ℕ) → convert w k (size w) b o ≡ widening w k b o
  unfolding convert
  convert-wide b o = rw (eq-eqb (size w) (size w) refl) refl

  pub convert-narrow : 1 ≤ k → (b o : List ℕ) → convert w k (size (w + k)) b o ≡ narrowing w k b o
  unfolding convert
  convert-narrow l b o = rw (ne_eqb (size (w + k)) (size w) (λ z. omega arith), eq-eqb (size (w + k)) (size (w + k)) refl) refl

  -- "30, size not 20 or 28, before every other"
  pub convert-unknown : (s : ℕ) (b o : List ℕ) → (s ≡ size w → ⊥) → (s ≡ size (w + k) → ⊥) → convert w k s b o ≡ refused 30 0
  unfolding convert
  convert-unknown s b o n m = rw (ne_eqb s (size w) n, ne_eqb s (size (w + k)) m) refl

  form-wide : (b : List ℕ) → other_form w k (size w) b ≡ widen w k b
  form-wide b = rw (eq-eqb (size w) (size w) refl) refl

  form-narrow : 1 ≤ k → (b : List ℕ) → other_form w k (size (w + k)) b ≡ narrow w k b
  form-narrow l b = rw (ne_eqb (size (w + k)) (size w) (λ z. omega arith)) refl

  -- what success says
  pub wide-success : (b o : List ℕ) → convert w k (size w) b o ≡ accepted → (check w b ≡ accepted) × (length (widen w k b) ≤ length o)
  wide-success b o e = widening-accepted w k b o (sym (convert-wide b o) ∙ e)

  pub narrow-success : 1 ≤ k → (b o : List ℕ) → convert w k (size (w + k)) b o ≡ accepted
      → (check (w + k) b ≡ accepted) × (declares_above w k b ≡ false) × (length (narrow w k b) ≤ length o)
  narrow-success l b o e = narrowing-accepted w k b o (sym (convert-narrow l b o) ∙ e)

  -- the converter's own way there and back, into any output p that has room for the sheet
  pub wide-and-back : 1 ≤ k → (b o p : List ℕ) → convert w k (size w) b o ≡ accepted → length b ≤ length p
      → (convert w k (size (w + k)) (widen w k b) p ≡ accepted) × (converted w k (size (w + k)) (widen w k b) p ≡ b ++ drop (length b) p)
  wide-and-back l b o p e h =
      let a = (wide-success b o e).0 in
      let n : narrow w k (widen w k b) ≡ b = there_and_back w k b (sound w b a).whole in
      let c : convert w k (size (w + k)) (widen w k b) p ≡ accepted =
      convert-narrow l (widen w k b) p ∙ rw (sheets.widen-accepted w k b a, sheets.widen-undeclared w k b a, n) (accepted-room b p h) in
      (c, success-writes w k (size (w + k)) (widen w k b) p c ∙ rw (form-narrow l (widen w k b), n) refl)

  pub narrow-and-back : 2 ≤ w → 1 ≤ k → (b o p : List ℕ) → convert w k (size (w + k)) b o ≡ accepted → length b ≤ length p
      → (convert w k (size w) (narrow w k b) p ≡ accepted) × (converted w k (size w) (narrow w k b) p ≡ b ++ drop (length b) p)
  narrow-and-back room l b o p e h =
      let a = narrow-success l b o e in
      let n : widen w k (narrow w k b) ≡ b = sheets.widen-narrow w k room b a.0 a.1 in
      let c : convert w k (size w) (narrow w k b) p ≡ accepted =
      convert-wide (narrow w k b) p ∙ rw (sheets.narrow-accepted w k room b a.0 a.1, n) (accepted-room b p h) in
      (c, success-writes w k (size w) (narrow w k b) p c ∙ rw (form-wide (narrow w k b), n) refl)

-- the lent output: as long as before, the sheet in front, "output bytes past the sheet untouched"
module _ (w k s : ℕ) (b o : List ℕ) (e : convert w k s b o ≡ accepted) where
  pub output-room : length (other_form w k s b) ≤ length o
  unfolding convert
  output-room = cases (eqb s (size w)) (eqb s (size (w + k))) e
    where
      cases : (x y : Bool) → cond x (widening w k b o) (cond y (narrowing w k b o) (refused 30 0)) ≡ accepted → length (cond x (widen w k b) (narrow w k b)) ≤ length o
      cases true y f = (widening-accepted w k b o f).1
      cases false true f = (narrowing-accepted w k b o f).2
      cases false false f = let z : true ≡ false = cc in never z

  pub output-front : take (length (other_form w k s b)) (converted w k s b o) ≡ other_form w k s b
  output-front = rw (success-writes w k s b o e) (take-append_seam (other_form w k s b) (drop (length (other_form w k s b)) o))

  pub output-behind : drop (length (other_form w k s b)) (converted w k s b o) ≡ drop (length (other_form w k s b)) o
  output-behind = rw (success-writes w k s b o e) (drop-append_seam (other_form w k s b) (drop (length (other_form w k s b)) o))

  pub output-length : length (converted w k s b o) ≡ length o
  output-length =
      let h = output-room in
      rw (success-writes w k s b o e, length-append (other_form w k s b) (drop (length (other_form w k s b)) o), length-drop (length (other_form w k s b)) o)
      (omega arith)

-- ---- as the product has it: four pollutants and six, twenty squarings

module _ (b : List ℕ) (a : Accepted pollutants squarings b) where
  abbrev wide : List ℕ
  wide = widen pollutants added_pollutants b

  -- "All answers for pollutants 1 to 4 stay equal"
  pub six-judged : judge more_pollutants squarings wide ≡ open_pairs added_pollutants (judge pollutants squarings b)
  six-judged = widened-judged pollutants added_pollutants squarings b a

  pub six-accepted : Accepted more_pollutants squarings wide
  six-accepted = widened-accepted pollutants added_pollutants squarings b a

  pub six-report : report_bytes more_pollutants (judge more_pollutants squarings wide) ≡ widened_record added_pollutants (report_bytes pollutants (judge pollutants squarings b))
  six-report = widened-report pollutants added_pollutants squarings b a

  -- "and there and back gives the sheet"
  pub six-and-back : narrow pollutants added_pollutants wide ≡ b
  six-and-back = widened-narrowed pollutants added_pollutants squarings b a

module _ (b : List ℕ) (a : Accepted more_pollutants squarings b) (o : declares_above pollutants added_pollutants b ≡ false) where
  abbrev narrowed : List ℕ
  narrowed = narrow pollutants added_pollutants b

  pub four-judged : judge more_pollutants squarings b ≡ open_pairs added_pollutants (judge pollutants squarings narrowed)
  four-judged = narrowed-judged pollutants added_pollutants squarings (omega arith) b a o

  pub four-accepted : Accepted pollutants squarings narrowed
  four-accepted = narrowed-accepted pollutants added_pollutants squarings (omega arith) b a o

  pub four-and-back : widen pollutants added_pollutants narrowed ≡ b
  four-and-back = narrowed-widened pollutants added_pollutants squarings (omega arith) b a o
