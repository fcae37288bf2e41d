-- The claims of `specs/Held.antt`: a call of a reader that holds its text is a call of the by-value reader with that text, since the text stays the same, so the by-value reader's claims are carried over.
-- Assumes nothing.
use Rattle.std.proofs.Common.{◌≡◌, ℕ, List, ◌∷◌, sym, refl, ap, ◌∙◌, subst, ap₂, Bor}
use Rattle.reader.specs.declared.State.{State}
use Rattle.reader.specs.declared.Replied.{Replied}
use Rattle.reader.specs.declared.Reader.{Reader}
use Rattle.reader.specs.Text.{new_state}
use Rattle.reader.specs.Calls.{Call, Given, Calls, no_more, one_more}
use Rattle.reader.specs.Held.{Opened, Asks, asked_out, asked, HeldAsByValue, HeldRows, HeldInOrder, ReaderNewUnique, ReaderNextUnique}
use Rattle.reader.proofs.Texts.{rows, in_order}
use Rattle.reader.proofs.Stays.{step, next_unique}

abbrev reader : Bor (List ℕ) → State → Reader
reader text s = record { text = text; state = s }

-- ---- rows

-- each call of the one is a call of the other
by_value : (h : Reader) (calls : List Call) (givens : List Given) → Asks h calls givens → Calls h.text.now h.state calls givens
by_value h calls givens asked_out = no_more
by_value h (call ∷ calls) givens (asked {givens = later-givens} r h' pool' meets later) =
    one_more (step r h'.state) pool' (record { answer = meets.answer; state = meets.stands; left = meets.left })
    (subst (λ (t : Bor (List ℕ)). Calls t.now h'.state calls later-givens) meets.holds (by_value h' calls later-givens later))

held : (text : Bor (List ℕ)) (s : State) (calls : List Call) (givens : List Given) → Calls text.now s calls givens → Asks (reader text s) calls givens
held text s calls givens no_more = asked_out
held text s (call ∷ calls) givens (one_more {givens = later-givens} r pool' meets later) =
    asked r.reply (reader text r.state) pool' (record { answer = meets.answer; stands = meets.state; holds = refl; left = meets.left })
    (held text r.state calls later-givens later)

pub held_as_by_value : HeldAsByValue
held_as_by_value h calls givens = (by_value h calls givens, held h.text h.state calls givens)

-- a reader that was opened is the one of its text and of the first state
opened : {text : Bor (List ℕ)} {options : _} {h : Reader} → Opened text options h → h ≡ reader text (new_state options)
opened o = ap₂ reader o.holds o.stands

pub held_rows : HeldRows
held_rows options text small h o calls givens asks =
    rows options text.now small calls givens (by_value _ calls givens (subst (λ (x : Reader). Asks x calls givens) (opened o) asks))

pub held_in_order : HeldInOrder
held_in_order options text small h o calls givens room asks =
    in_order options text.now small calls givens room (by_value _ calls givens (subst (λ (x : Reader). Asks x calls givens) (opened o) asks))

-- ---- one outcome each

pub reader_new_with_options_unique : ReaderNewUnique
reader_new_with_options_unique text options r r' x y = opened x ∙ sym (opened y)

pub reader_new_unique : ReaderNewUnique
reader_new_unique = reader_new_with_options_unique

pub reader_next_unique : ReaderNextUnique
reader_next_unique h pool at r₁ r₂ h₁ h₂ p₁ p₂ x y =
    let u = next_unique h.state h.text.now pool at (step r₁ h₁.state) (step r₂ h₂.state) p₁ p₂
    (record { answer = x.answer; state = x.stands; left = x.left }) (record { answer = y.answer; state = y.stands; left = y.left }) in
    (ap (λ (s : Replied). s.reply) u.0, ap₂ reader (x.holds ∙ sym y.holds) (x.stands ∙ sym y.stands), u.1)
