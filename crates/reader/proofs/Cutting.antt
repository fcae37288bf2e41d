-- The laws of `lines`: a text is its first line, that line's end and the rest; a closed part's lines stand by themselves.
-- Assumes nothing.
use Rattle.std.proofs.Common.{◌≡◌, ℕ, zero, suc, Bool, true, false, ◌&&◌, ◌||◌, eqb, ◌≢◌, ◌⊎◌, List, [], ◌∷◌, ◌++◌, length, sym, refl, ap, ap₂, inl, inr, true≢false, append_assoc, arith, ne_eqb, eqb-true}
use mathlib.Core.Option.{Option, none, some, map}
use mathlib.Core.List.Memᴰ
use mathlib.Core.List.{Memᴰ, tail-eq_of_cons-eq, head-eq_of_cons-eq, nil≢cons}
use borrow.Author.Tests.{eqb-false}
use Rattle.digits.proofs.Tests.{both_ways, both, and_false}
use Rattle.std.specs.Prelude.{if◌then◌else◌}
use Rattle.reader.specs.Lines.{LF, CR, at_LF, ends_line, first_line, rest, Ended, with_CRLF, with_LF, with_text, Cut, lines, later, through}

-- ---- first line and rest

pub later_is : (text : List ℕ) → later text ≡ lines (rest text)
unfolding lines rest
later_is [] = refl
later_is (c ∷ text) =
    both_ways (λ b. (if b then lines text else later text) ≡ lines (if b then text else rest text)) (eqb c LF)
    refl (later_is text)

pub lines_cons : (c : ℕ) (text : List ℕ) → lines (c ∷ text) ≡ first_line (c ∷ text) ∷ lines (rest (c ∷ text))
unfolding lines
lines_cons c text = ap (λ (l : List (List ℕ)). first_line (c ∷ text) ∷ l) (later_is (c ∷ text))

-- ---- first line and rest cut the text, and nothing else does

no_LF_cons : {c : ℕ} {line : List ℕ} → c ≢ LF → ¬ Memᴰ LF line → ¬ Memᴰ LF (c ∷ line)
no_LF_cons {c} {line} h n m = go (Memᴰ.cases_cons m)
  where
    go : (LF ≡ c) ⊎ Memᴰ LF line → ⊥
    go (inl e) = h (sym e)
    go (inr m) = n m

pub at_LF_is : (text : List ℕ) → at_LF text ≡ true → (t : List ℕ) × (text ≡ LF ∷ t)
unfolding at_LF
at_LF_is [] e = let z : ◌≡◌ {A = ℕ} 0 1 = cc in absurd (omega arith)
at_LF_is (c ∷ t) e = (t, ap (λ (x : ℕ). x ∷ t) (eqb-true c LF e))

-- a byte at which no line ends, before a cut text
ended_cons : (c : ℕ) {line end rest : List ℕ} → ends_line c (line ++ (end ++ rest)) ≡ false → Ended line end rest → Ended (c ∷ line) end rest
unfolding ends_line
ended_cons c e with_CRLF = with_CRLF
ended_cons c e with_text = with_text
ended_cons c e (with_LF {line} {rest} h) = with_LF (λ front. go line front e h)
  where
    go : (line front : List ℕ) → eqb c LF || (eqb c CR && at_LF (line ++ (LF ∷ rest))) ≡ false
        → ((f : List ℕ) → line ≢ f ++ (CR ∷ [])) → c ∷ line ≢ front ++ (CR ∷ [])
    go [] [] e h p = true≢false (rw (head-eq_of_cons-eq p) at e)
    go (d ∷ line) [] e h p = let z : ◌≡◌ {A = ℕ} 0 1 = cc in omega arith
    go line (f ∷ front) e h p = h front (tail-eq_of_cons-eq p)

nil_ne : (front : List ℕ) → [] ≢ front ++ (CR ∷ [])
nil_ne [] = nil≢cons
nil_ne (f ∷ front) = nil≢cons

cut_cons : (c : ℕ) (text : List ℕ) (b₁ : Bool) → eqb c LF ≡ b₁ → (b₂ : Bool) → eqb c CR && at_LF text ≡ b₂
    → Cut text (first_line text) (rest text)
    → Cut (c ∷ text) (if b₁ || b₂ then [] else c ∷ first_line text) (if b₁ then text else rest text)
unfolding first_line rest
cut_cons c text true e₁ b₂ e₂ k =
    record { end = LF ∷ []; whole = ap (λ (x : ℕ). x ∷ text) (eqb-true c LF e₁); no_LF = Memᴰ.not-nil; ended = with_LF nil_ne }
cut_cons c text false e₁ true e₂ k =
    let (is-CR, is-LF) = both (eqb c CR) (at_LF text) e₂ in
    let (t, e) = at_LF_is text is-LF in
    record {
      end = CR ∷ LF ∷ [];
      whole = rw (eqb-true c CR is-CR, e);
      no_LF = Memᴰ.not-nil;
      ended = with_CRLF;
    }
cut_cons c text false e₁ false e₂ k =
    record {
      end = k.end;
      whole = ap (λ (t : List ℕ). c ∷ t) k.whole;
      no_LF = no_LF_cons (eqb-false c LF e₁) k.no_LF;
      ended = ended_cons c (rw (← k.whole, e₁, e₂)) k.ended;
    }

pub cut : (text : List ℕ) → Cut text (first_line text) (rest text)
unfolding first_line rest
cut [] = record { end = []; whole = refl; no_LF = Memᴰ.not-nil; ended = with_text }
cut (c ∷ text) = cut_cons c text (eqb c LF) refl (eqb c CR && at_LF text) refl (cut text)

ended_tail : {c : ℕ} {line end rest : List ℕ} → Ended (c ∷ line) end rest → Ended line end rest
ended_tail with_CRLF = with_CRLF
ended_tail {c} (with_LF h) = with_LF (λ front e. h (c ∷ front) (ap (λ (l : List ℕ). c ∷ l) e))
ended_tail with_text = with_text

not_ends : (c : ℕ) (line : List ℕ) {end rest : List ℕ} → ¬ Memᴰ LF (c ∷ line) → Ended (c ∷ line) end rest → ends_line c (line ++ (end ++ rest)) ≡ false
unfolding ends_line
not_ends c [] n with_CRLF = rw (ne_eqb c LF (λ e. n (Memᴰ.head (sym e)))) (and_false (eqb c CR))
not_ends c [] n (with_LF h) = rw (ne_eqb c LF (λ e. n (Memᴰ.head (sym e))), ne_eqb c CR (λ e. h [] (ap (λ (x : ℕ). x ∷ []) e)))
not_ends c [] n with_text = rw (ne_eqb c LF (λ e. n (Memᴰ.head (sym e)))) (and_false (eqb c CR))
not_ends c (d ∷ line) n h =
    rw (ne_eqb c LF (λ e. n (Memᴰ.head (sym e))), ne_eqb d LF (λ e. n (Memᴰ.tail (Memᴰ.head (sym e))))) (and_false (eqb c CR))

unique : (line : List ℕ) {end rest' : List ℕ} → ¬ Memᴰ LF line → Ended line end rest'
    → (line ≡ first_line (line ++ (end ++ rest'))) × (rest' ≡ rest (line ++ (end ++ rest')))
unfolding first_line rest
unique [] n with_CRLF = (refl, refl)
unique [] n (with_LF h) = (refl, refl)
unique [] n with_text = (refl, refl)
unique (c ∷ line) n h =
    let (e, f) = unique line (λ m. n (Memᴰ.tail m)) (ended_tail h) in
    (rw (not_ends c line n h) (ap (λ (l : List ℕ). c ∷ l) e), rw (ne_eqb c LF (λ e. n (Memᴰ.head (sym e)))) f)

pub cut_unique : {text line rest' : List ℕ} → Cut text line rest' → (line ≡ first_line text) × (rest' ≡ rest text)
cut_unique {line} c = rw c.whole (unique line c.no_LF c.ended)

-- ---- a closed part

at_LF_closed : (p q : List ℕ) → at_LF (p ++ LF ∷ q) ≡ at_LF (p ++ LF ∷ [])
unfolding at_LF
at_LF_closed [] q = refl
at_LF_closed (c ∷ p) q = refl

first_line_closed : (p q : List ℕ) → first_line (p ++ LF ∷ q) ≡ first_line (p ++ LF ∷ [])
unfolding first_line
first_line_closed [] q = refl
first_line_closed (c ∷ p) q = rw (at_LF_closed p q, first_line_closed p q)

lines_both : (p q : List ℕ) → (lines (p ++ LF ∷ q) ≡ lines (p ++ LF ∷ []) ++ lines q) × (later (p ++ LF ∷ q) ≡ later (p ++ LF ∷ []) ++ lines q)
unfolding lines
lines_both [] q = (refl, refl)
lines_both (c ∷ p) q =
    let (e, f) = lines_both p q in
    let t = both_ways (λ b. (if b then lines (p ++ LF ∷ q) else later (p ++ LF ∷ q)) ≡ (if b then lines (p ++ LF ∷ []) else later (p ++ LF ∷ [])) ++ lines q)
    (eqb c LF) e f in
    (ap₂ (λ (l : List ℕ) (ls : List (List ℕ)). l ∷ ls) (first_line_closed (c ∷ p) q) t, t)

-- A part of a text that ends where a line ends: nothing, or something with a LF at its end.
pub data Closed : List ℕ → Type 0 where
  nothing : Closed []
  closed : (part : List ℕ) → Closed (part ++ (LF ∷ []))

pub lines_closed : {p : List ℕ} → Closed p → (q : List ℕ) → lines (p ++ q) ≡ lines p ++ lines q
unfolding lines
lines_closed nothing q = refl
lines_closed (closed part) q = rw append_assoc (lines_both part q).0

-- ---- through a line

-- what `through` says: the part it gives is n whole lines, and the text goes on behind it
pub record Head (n : ℕ) (text head : List ℕ) : Type 0 where
  pub tail : List ℕ
  pub text_is : text ≡ head ++ tail
  pub whole : Closed head
  pub count : length (lines head) ≡ n

-- a LF before n whole lines is a line more
head_lf : (c n : ℕ) {text head : List ℕ} → c ≡ LF → Head n text head → Head (suc n) (c ∷ text) (c ∷ head)
unfolding lines
head_lf c n e h =
    rw e (record { tail = h.tail; text_is = ap (λ (l : List ℕ). LF ∷ l) h.text_is; whole = go h.whole; count = ap suc h.count })
  where
    go : {head : List ℕ} → Closed head → Closed (LF ∷ head)
    go nothing = closed []
    go (closed part) = closed (LF ∷ part)

count_later : (n : ℕ) (text : List ℕ) → length (lines text) ≡ suc n → length (later text) ≡ n
unfolding lines
count_later n [] e = absurd (omega arith)
count_later n (c ∷ text) e = omega arith

-- any other byte before whole lines, one at least, lengthens the first
head_more : (c n : ℕ) {text head : List ℕ} → eqb c LF ≡ false → Head (suc n) text head → Head (suc n) (c ∷ text) (c ∷ head)
unfolding lines
head_more c n {head} e h =
    record {
      tail = h.tail;
      text_is = ap (λ (l : List ℕ). c ∷ l) h.text_is;
      whole = go h.whole h.count;
      count = rw e (ap suc (count_later n head h.count));
    }
  where
    go : {head : List ℕ} → Closed head → length (lines head) ≡ suc n → Closed (c ∷ head)
    go nothing z = absurd (omega arith)
    go (closed part) z = closed (c ∷ part)

map_some : {A B : Type 0} (f : A → B) (o : Option A) (y : B) → map f o ≡ some y → (x : A) × (o ≡ some x) × (f x ≡ y)
map_some f none y e = let z : ◌≡◌ {A = ℕ} 0 1 = cc in absurd (omega arith)
map_some f (some x) y e = (x, refl, cc)

head_step : (c n : ℕ) (text head : List ℕ)
    → ((h : List ℕ) → through n text ≡ some h → Head n text h)
    → ((h : List ℕ) → through (suc n) text ≡ some h → Head (suc n) text h)
    → (b : Bool) → eqb c LF ≡ b → map (λ part. c ∷ part) (if b then through n text else through (suc n) text) ≡ some head
    → Head (suc n) (c ∷ text) head
head_step c n text head ih more true b e =
    let (h, eh, p) = map_some (λ part. c ∷ part) (through n text) head e in
    rw (← p) (head_lf c n (eqb-true c LF b) (ih h eh))
head_step c n text head ih more false b e =
    let (h, eh, p) = map_some (λ part. c ∷ part) (through (suc n) text) head e in
    rw (← p) (head_more c n b (more h eh))

pub through_head : (n : ℕ) (text head : List ℕ) → through n text ≡ some head → Head n text head
unfolding through lines
through_head zero text head e =
    let p : [] ≡ head = cc in
    rw (← p) (record { tail = text; text_is = refl; whole = nothing; count = refl })
through_head (suc n) [] head e = let z : ◌≡◌ {A = ℕ} 0 1 = cc in absurd (omega arith)
through_head (suc n) (c ∷ text) head e =
    head_step c n text head (through_head n text) (through_head (suc n) text) (eqb c LF) refl e
