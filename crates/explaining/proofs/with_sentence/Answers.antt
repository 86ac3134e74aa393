-- Line n of the text is the sentence of number n, empty where there is none, and behind them there is none.
use Rattle.arithmetic.proofs.Basics.{ℕ, zero, suc, ◌+◌, ◌≤◌, ◌<◌, add-zero, arith, ◌≡◌, refl, sym, ap, ◌∙◌, Bool, true, not, cond, List, [], ◌∷◌, ◌++◌, length, get_or, leb, eqb}
use Rattle.arithmetic.proofs.Basics.{ltb, leb-true, ltb-true, ltb-false, ne_eqb, not-true, ◌&&◌, and-true, by-test}
use Rattle.rules.specs.Tools.{all}
use Rattle.lines.specs.Writing.{with_bytes}
use Rattle.explaining.specs.Sentences.{Sentence, ◌means◌, sentences, meaning, sentence, line_of}
use Rattle.explaining.proofs.with_sentence.Goals as goal

-- ---- the table by place

-- the words for n numbers from m on
abbrev words : (n m : ℕ) → List (List ℕ)
words zero m = []
words (suc n) m = meaning sentences m ∷ words n (suc m)

words-at : (n m i : ℕ) → i < n → get_or (words n m) i [] ≡ meaning sentences (m + i)
words-at zero m i h = absurd (omega arith)
words-at (suc n) m zero h = rw (add-zero m) refl
words-at (suc n) m (suc i) h =
    let e : suc m + i ≡ m + suc i = omega arith in
    words-at n (suc m) i (omega arith) ∙ ap (meaning sentences) e

words-behind : (n m i : ℕ) → n ≤ i → get_or (words n m) i [] ≡ []
words-behind zero m i h = refl
words-behind (suc n) m zero h = absurd (omega arith)
words-behind (suc n) m (suc i) h = words-behind n (suc m) i (omega arith)

-- a table whose numbers are below m has no words from there on
abbrev below : (m : ℕ) → List Sentence → Bool
below m [] = true
below m (k means t ∷ others) = ltb k m && below m others

none-behind : (m : ℕ) (ss : List Sentence) → below m ss ≡ true → (n : ℕ) → m ≤ n → meaning ss n ≡ []
none-behind m [] h n l = refl
none-behind m (k means t ∷ others) h n l =
    let g = and-true (ltb k m) (below m others) h in
    let f = ltb-true k m g.0 in
    rw (ne_eqb n k (λ z. omega arith)) (none-behind m others g.1 n l)

-- the numbers 0 to 19
abbrev placed : List (List ℕ)
placed = words 20 0

is-placed : (n : ℕ) → sentence n ≡ get_or placed n []
unfolding sentence
is-placed n =
    by-test (λ t. meaning sentences n ≡ get_or placed n []) (ltb n 20)
    (λ e. let z : n ≡ 0 + n = omega arith in ap (meaning sentences) z ∙ sym (words-at 20 0 n (ltb-true n 20 e)))
    (λ e. let h = ltb-false n 20 e in none-behind 20 sentences refl n h ∙ sym (words-behind 20 0 n h))

-- ---- the text, a line each

abbrev text : List (List ℕ) → List ℕ
text [] = []
text (l ∷ more) = l ++ (10 ∷ text more)

abbrev is_line : List ℕ → Bool
is_line l = all (λ b. not (eqb b 10)) l

first-line : (l rest : List ℕ) → is_line l ≡ true → line_of (l ++ (10 ∷ rest)) 0 ≡ l
unfolding line_of
first-line [] rest h = refl
first-line (b ∷ l) rest h =
    let g = and-true (not (eqb b 10)) (is_line l) h in
    rw (not-true (eqb b 10) g.0) (ap (λ (bs : List ℕ). b ∷ bs) (first-line l rest g.1))

next-line : (l rest : List ℕ) (k : ℕ) → is_line l ≡ true → line_of (l ++ (10 ∷ rest)) (suc k) ≡ line_of rest k
unfolding line_of
next-line [] rest k h = refl
next-line (b ∷ l) rest k h =
    let g = and-true (not (eqb b 10)) (is_line l) h in
    ap (λ (t : Bool). line_of (l ++ (10 ∷ rest)) (cond t k (suc k))) (not-true (eqb b 10) g.0) ∙ next-line l rest k g.1

line_at : (ls : List (List ℕ)) → all is_line ls ≡ true → (n : ℕ) → line_of (text ls) n ≡ get_or ls n []
unfolding line_of
line_at [] h n = refl
line_at (l ∷ ls) h zero = first-line l (text ls) (and-true (is_line l) (all is_line ls) h).0
line_at (l ∷ ls) h (suc n) =
    let g = and-true (is_line l) (all is_line ls) h in
    next-line l (text ls) n g.0 ∙ line_at ls g.1 n

-- the sentences are short: one computed check of them
short-at : (most : ℕ) (ls : List (List ℕ)) → all (λ l. leb (length l) most) ls ≡ true → (n : ℕ) → length (get_or ls n []) ≤ most
short-at most [] h n = omega arith
short-at most (l ∷ ls) h zero = leb-true (length l) most (and-true _ _ h).0
short-at most (l ∷ ls) h (suc n) = short-at most ls (and-true (leb (length l) most) _ h).1 n

short : (n : ℕ) → length (sentence n) ≤ 100
short n = rw (is-placed n) (short-at 100 placed refl n)

pub returns : goal.returns
returns c = record { adds = c.with_line.ensures ∙ ap (with_bytes _) (line_at placed refl _ ∙ sym (is-placed _)); few = short _ }
