-- As a line goes on, what was kept of it before stays at its front, as long as fewer than 522 bytes are kept.
-- Assumes nothing.
use Rattle.std.proofs.Common.{◌≡◌, ℕ, suc, ◌<◌, ◌≤◌, Bool, true, false, eqb, ltb, List, [], ◌∷◌, ◌++◌, length, get_or, take, sym, refl, ap, ◌∙◌, arith, length-append, length-take-le, take-take, ltb-false}
use mathlib.Core.Option.{none, some}
use lib.Seq.{take-length, take-append_seam}
use Rattle.std.specs.Prelude.{if◌then◌else◌}
use Rattle.digits.specs.Digits.{is_digit}
use Rattle.digits.specs.Reading.{named}
use Rattle.digits.proofs.Tests.{branch, both_ways}
use Rattle.reader.specs.Lines.{LF, CR}
use Rattle.chunks.specs.Begun.{Kept, Begun, nothing, is_empty, push, with_CR, add, counted, Sought, ended, unended, seek, look}
use Rattle.chunks.specs.Next.{in_carry}
use Rattle.chunks.proofs.Waiting.{push_some}

abbrev pub Keeps : (before after : List ℕ) → Type 0
Keeps before after = length after < 522 → (length before ≤ length after) × (take (length before) after ≡ before)

keeps_same : (l : List ℕ) → Keeps l l
keeps_same l h = (omega arith, take-length l)

keeps_on : (a b c : List ℕ) → Keeps a b → Keeps b c → Keeps a c
keeps_on a b c f g h =
    let (n, e) = g h in
    let (m, d) = f (omega arith) in
    (omega arith, sym (take-take (length a) (length b) c m) ∙ ap (take (length a)) e ∙ d)

keeps_none : (l after : List ℕ) → is_empty l ≡ true → Keeps l after
unfolding is_empty
keeps_none [] after e h = (omega arith, refl)
keeps_none (c ∷ l) after e h = let z : ◌≡◌ {A = ℕ} 0 1 = cc in absurd (omega arith)

-- ---- one byte more

keeps_push : (k : Kept) (c : ℕ) → Keeps k.bytes (push k c).bytes
unfolding push
keeps_push k c = go (ltb (length k.bytes) 522) refl (is_digit (get_or k.bytes 521 0))
  where
    go : (t : Bool) → ltb (length k.bytes) 522 ≡ t → (u : Bool)
        → let k' : Kept = if t then record { bytes = k.bytes ++ (c ∷ []); skipped = k.skipped } else if u then record { bytes = take 521 k.bytes ++ (c ∷ []); skipped = named (suc k.skipped) } else k in
        Keeps k.bytes k'.bytes
    go true e u h = (omega (arith, length-append k.bytes (c ∷ [])), take-append_seam k.bytes (c ∷ []))
    go false e true h =
        let f = ltb-false (length k.bytes) 522 e in
        absurd (omega (arith, length-append (take 521 k.bytes) (c ∷ []), length-take-le 521 k.bytes (omega arith)))
    go false e false h = absurd (omega (arith, ltb-false (length k.bytes) 522 e))

pub keeps_CR : (b : Begun) → Keeps b.kept.bytes (with_CR b).bytes
unfolding with_CR
keeps_CR b =
    both_ways (λ t. let k : Kept = if t then push b.kept CR else b.kept in Keeps b.kept.bytes k.bytes) b.cr (keeps_push b.kept CR) (keeps_same b.kept.bytes)

keeps_add : (b : Begun) (c : ℕ) → Keeps b.kept.bytes (add b c).kept.bytes
unfolding add
keeps_add b c =
    both_ways (λ t. let b' : Begun = if t then record { kept = with_CR b; cr = true } else record { kept = push (with_CR b) c; cr = false } in Keeps b.kept.bytes b'.kept.bytes) (eqb c CR)
    (keeps_CR b) (keeps_on b.kept.bytes (with_CR b).bytes (push (with_CR b) c).bytes (keeps_CR b) (keeps_push (with_CR b) c))

-- ---- a search

-- what it leaves at the carry's front
unfoldable pub carried_by : Sought → List ℕ
unfolding in_carry
carried_by (ended start n k rest) = in_carry start k
carried_by (unended n b) = b.kept.bytes

seek_keeps : (text : List ℕ) (n : ℕ) (b : Begun) → Keeps b.kept.bytes (carried_by (seek none n b text))
unfolding seek carried_by in_carry
seek_keeps [] n b = keeps_same b.kept.bytes
seek_keeps (c ∷ text) n b =
    both_ways (λ t. Keeps b.kept.bytes (carried_by (if t then (if is_empty b.kept.bytes then seek (some text) (counted n) nothing text else ended none n b.kept text) else seek none n (add b c) text))) (eqb c LF)
    (branch (λ (f : Sought). Keeps b.kept.bytes (carried_by f)) (is_empty b.kept.bytes) (seek (some text) (counted n) nothing text) (ended none n b.kept text)
    (λ e. keeps_none b.kept.bytes (carried_by (seek (some text) (counted n) nothing text)) e) (λ e. keeps_same b.kept.bytes))
    (keeps_on b.kept.bytes (add b c).kept.bytes (carried_by (seek none n (add b c) text)) (keeps_add b c) (seek_keeps text n (add b c)))

none_begun : (k : Kept) (cr : Bool) → is_empty (with_CR (record { kept = k; cr = cr })).bytes ≡ true → is_empty k.bytes ≡ true
unfolding with_CR
none_begun k true e =
    let f : ◌≡◌ {A = Bool} false true = sym (push_some k CR) ∙ e in
    let z : ◌≡◌ {A = ℕ} 0 1 = cc in absurd (omega arith)
none_begun k false e = e

pub look_keeps : (text : List ℕ) (n : ℕ) (b : Begun) → Keeps b.kept.bytes (carried_by (look n b text))
unfolding look
look_keeps text n b = go (is_empty (with_CR b).bytes) refl
  where
    go : (t : Bool) → is_empty (with_CR b).bytes ≡ t → Keeps b.kept.bytes (carried_by (seek (if t then some text else none) n b text))
    go true e = keeps_none b.kept.bytes (carried_by (seek (some text) n b text)) (none_begun b.kept b.cr e)
    go false e = seek_keeps text n b
