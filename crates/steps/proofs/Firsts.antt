-- Lists cut at the first element that lacks a property: the first placement outside, and the first line that stops a load.
-- Of a loader this needs only which lines pass, which stop a load, and what lines state.
-- Assumes nothing.
use mathlib.Core.Path.{◌≡◌, refl, sym, ap, ◌∙◌}
use Prim.Native.Nat.{ℕ, suc, ◌+◌}
use native.Mathlib.Omega.{arith}
use mathlib.Core.Bool.{Bool, true, false, true≢false}
use mathlib.Core.Option.{Option, none, some}
use mathlib.Core.List.{List, [], ◌∷◌, ◌++◌, append_assoc, append-nil, nil≢cons, head-eq_of_cons-eq, tail-eq_of_cons-eq}
use lib.ListN.{length}
use Rattle.digits.specs.Common.{Every}
use Rattle.std.specs.Prelude.{if◌then◌else◌}
use Rattle.steps.specs.Steps.{Placement, Step, Tally, Verdict, accepted, Decision, by, outside, stated}
use Rattle.steps.specs.Account.{Account, AllPass, all_states, Decided}

-- ---- lists

pub not_empty : {A : Type 0} (before : List A) (x : A) (after : List A) → [] ≡ before ++ (x ∷ after) → ⊥
not_empty [] x after e = nil≢cons e
not_empty (y ∷ before) x after e = nil≢cons e

pub every_at : {A : Type 0} (P : A → Type 0) (before : List A) (x : A) (after : List A) → Every P (before ++ (x ∷ after)) → P x
every_at P [] x after (h, hs) = h
every_at P (y ∷ before) x after (h, hs) = every_at P before x after hs

-- two splits of a list, each at the first element that lacks a property
pub same_first : {A : Type 0} (P : A → Type 0) (b b' : List A) (x x' : A) (a a' : List A) → b ++ (x ∷ a) ≡ b' ++ (x' ∷ a')
    → Every P b → Every P b' → ¬ P x → ¬ P x' → x ≡ x'
same_first P [] [] x x' a a' e h h' n n' = head-eq_of_cons-eq e
same_first P [] (y ∷ b') x x' a a' e h h' n n' = absurd (n (rw (head-eq_of_cons-eq e) h'.0))
same_first P (y ∷ b) [] x x' a a' e h h' n n' = absurd (n' (rw (← head-eq_of_cons-eq e) h.0))
same_first P (y ∷ b) (y' ∷ b') x x' a a' e h h' n n' = same_first P b b' x x' a a' (tail-eq_of_cons-eq e) h.1 h'.1 n n'

-- ---- the first placement outside

module _ (inside : ℕ → Bool) where
  abbrev pub Inside : Placement → Type 0
  Inside p = inside p.address ≡ true

  pub not_inside : (p : Placement) → inside p.address ≡ false → ¬ Inside p
  not_inside p o i = true≢false (sym i ∙ o)

  abbrev pub AllInside : List Placement → Type 0
  AllInside ps = Every (λ (p : Placement). inside p.address ≡ true) ps

  pub record First (ps : List Placement) (address : ℕ) : Type 0 where
    pub before : List Placement
    pub after : List Placement
    pub p : Placement
    pub whole : ps ≡ before ++ (p ∷ after)
    pub insides : AllInside before
    pub out : inside p.address ≡ false
    pub there : p.address ≡ address

  abbrev pub Seen : List Placement → Option ℕ → Type 0
  Seen ps none = AllInside ps
  Seen ps (some address) = First ps address

  pub seen : (ps : List Placement) → Seen ps (outside inside ps)
  unfolding outside
  seen [] = tt
  seen (p ∷ ps) = go (inside p.address) refl (outside inside ps) (seen ps)
    where
      go : (b : Bool) → inside p.address ≡ b → (o : Option ℕ) → Seen ps o → Seen (p ∷ ps) (if b then o else some p.address)
      go true e none s = (e, s)
      go true e (some a) s =
          record { before = p ∷ s.before; after = s.after; p = s.p; whole = ap (λ (l : List Placement). p ∷ l) s.whole; insides = (e, s.insides); out = s.out; there = s.there }
      go false e o s = record { before = []; after = ps; p = p; whole = refl; insides = tt; out = e; there = refl }

-- ---- the line that stops a load

-- what an account owes: a line that passes does not stop a load, and a line that stops one gives one verdict
pub record Sound (a : Account) : Type 0 where
  pub not_both : (ahead : List (List ℕ)) (l : List ℕ) (n : ℕ) (v : Verdict) → a.passes ahead l → a.stops ahead l n v → ⊥
  pub one_verdict : (ahead : List (List ℕ)) (l : List ℕ) (n : ℕ) (v v' : Verdict) → a.stops ahead l n v → a.stops ahead l n v' → v ≡ v'

module _ (a : Account) where
  -- of lines numbered from n on, after others, whose steps are s: line m decides, and those before it pass
  pub record Found (ahead : List (List ℕ)) (s : List Step) (n : ℕ) (ls : List (List ℕ)) (m : ℕ) (v : Verdict) : Type 0 where
    pub mid : List (List ℕ)
    pub line : List ℕ
    pub later : List (List ℕ)
    pub whole : ls ≡ mid ++ (line ∷ later)
    pub number : m ≡ n + length mid
    pub pass : AllPass a ahead mid
    pub stops : a.stops (ahead ++ mid) line m v
    pub states : (t : Tally) → v ≡ accepted t → stated s ≡ all_states a.states ahead mid

  abbrev pub Walked : (ahead : List (List ℕ)) → List Step → ℕ → List (List ℕ) → Option Decision → Type 0
  Walked ahead s n ls none = AllPass a ahead ls
  Walked ahead s n ls (some (by m v)) = Found ahead s n ls m v

  -- a line that passes
  pub past : (ahead : List (List ℕ)) (l : List ℕ) (s s' : List Step) (n : ℕ) (ls : List (List ℕ)) → a.passes ahead l
      → stated s ≡ a.states ahead l ++ stated s'
      → (d : Option Decision) → Walked (ahead ++ (l ∷ [])) s' (suc n) ls d → Walked ahead s n (l ∷ ls) d
  unfolding all_states
  past ahead l s s' n ls p e none w = (p, w)
  past ahead l s s' n ls p e (some (by m v)) w =
      record {
        mid = l ∷ w.mid;
        line = w.line;
        later = w.later;
        whole = ap (λ (x : List (List ℕ)). l ∷ x) w.whole;
        number = omega (arith, w.number);
        pass = (p, w.pass);
        stops = rw append_assoc at w.stops;
        states = λ t h. e ∙ ap (λ (x : List Placement). a.states ahead l ++ x) (w.states t h);
      }

  -- a line that decides
  pub here : (ahead : List (List ℕ)) (l : List ℕ) (s : List Step) (n : ℕ) (ls : List (List ℕ)) (v : Verdict) → a.stops ahead l n v
      → ((t : Tally) → v ≡ accepted t → stated s ≡ []) → Found ahead s n (l ∷ ls) n v
  unfolding all_states
  here ahead l s n ls v w e = record { mid = []; line = l; later = ls; whole = refl; number = omega arith; pass = tt; stops = rw append-nil w; states = e }

  -- ---- there is one

  passes_at : (done ahead : List (List ℕ)) (line : List ℕ) (later : List (List ℕ)) → AllPass a done (ahead ++ (line ∷ later)) → a.passes (done ++ ahead) line
  passes_at done [] line later h = rw append-nil h.0
  passes_at done (x ∷ ahead) line later h = rw append_assoc at (passes_at (done ++ (x ∷ [])) ahead line later h.1)

  -- two splits of the lines, each at the first that does not pass
  same_line : (done ahead ahead' : List (List ℕ)) (line line' : List ℕ) (later later' : List (List ℕ)) → ahead ++ (line ∷ later) ≡ ahead' ++ (line' ∷ later')
      → AllPass a done ahead → AllPass a done ahead' → ¬ a.passes (done ++ ahead) line → ¬ a.passes (done ++ ahead') line'
      → (ahead ≡ ahead') × (line ≡ line')
  same_line done [] [] line line' later later' e h h' n n' = (refl, head-eq_of_cons-eq e)
  same_line done [] (x ∷ ahead') line line' later later' e h h' n n' = absurd (n (rw (append-nil, head-eq_of_cons-eq e) h'.0))
  same_line done (x ∷ ahead) [] line line' later later' e h h' n n' = absurd (n' (rw (append-nil, ← head-eq_of_cons-eq e) h.0))
  same_line done (x ∷ ahead) (x' ∷ ahead') line line' later later' e h h' n n' =
      let q : x' ≡ x = sym (head-eq_of_cons-eq e) in
      let (b, l) = same_line (done ++ (x ∷ [])) ahead ahead' line line' later later' (tail-eq_of_cons-eq e) h.1 (rw q at h'.1)
      (rw append_assoc n) (rw (append_assoc, ← q) n') in
      (cc, l)

  module _ (sound : Sound a) (s : List Step) (ls : List (List ℕ)) where
    stuck : {m : ℕ} {v : Verdict} (f : Found [] s 1 ls m v) → ¬ a.passes f.mid f.line
    stuck {m} {v} f p = sound.not_both f.mid f.line m v p f.stops

    -- no line stops the load, and one does
    none_found : {m : ℕ} {v : Verdict} → AllPass a [] ls → Found [] s 1 ls m v → ⊥
    none_found all f = stuck f (passes_at [] f.mid f.line f.later (rw f.whole at all))

    one_found : {m m' : ℕ} {v v' : Verdict} → Found [] s 1 ls m v → Found [] s 1 ls m' v' → v ≡ v'
    one_found {m} {m'} {v} {v'} f f' =
        let (b, l) = same_line [] f.mid f'.mid f.line f'.line f.later f'.later (sym f.whole ∙ f'.whole) f.pass f'.pass (stuck f) (stuck f') in
        let same : m ≡ m' = f.number ∙ ap (λ (x : List (List ℕ)). 1 + length x) b ∙ sym f'.number in
        sound.one_verdict f'.mid f'.line m' v v' (rw (b, l, same) at f.stops) f'.stops

    found : {m : ℕ} {v : Verdict} → Decided a ls (stated s) m v → Found [] s 1 ls m v
    found d = record { mid = d.ahead; line = d.line; later = d.later; whole = d.whole; number = omega (arith, d.number); pass = d.pass; stops = d.stops; states = d.stated }

    -- the same of a line that is decided
    pub none_decided : {m : ℕ} {v : Verdict} → AllPass a [] ls → Decided a ls (stated s) m v → ⊥
    none_decided all d = none_found all (found d)

    pub one_decided : {m m' : ℕ} {v v' : Verdict} → Decided a ls (stated s) m v → Decided a ls (stated s) m' v' → v ≡ v'
    one_decided d d' = one_found (found d) (found d')

  pub as_decided : (s : List Step) (ls : List (List ℕ)) (m : ℕ) (v : Verdict) → Found [] s 1 ls m v → Decided a ls (stated s) m v
  as_decided s ls m v f = record { ahead = f.mid; line = f.line; later = f.later; whole = f.whole; number = omega (arith, f.number); pass = f.pass; stops = f.stops; stated = f.states }
