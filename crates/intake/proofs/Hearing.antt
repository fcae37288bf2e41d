-- What the next line of a chunk comes to: what is still to come of the chunk is that line and then the rest, whatever was stated before.
-- Assumes nothing.
use Rattle.std.proofs.Common.{◌≡◌, ℕ, suc, ◌+◌, ◌-◌, ◌%◌, ◌^◌, ◌<◌, ◌≤◌, Bool, true, false, eqb, ltb, List, [], ◌∷◌, ◌++◌, length, take, drop, sym, refl, ap, ◌∙◌, subst, ap₂, append_assoc, append-nil, arith, length-append, length-drop, ltb-true}
use mathlib.Core.Option.{Option, none, some}
use Rattle.std.specs.Prelude.{if◌then◌else◌}
use Rattle.digits.proofs.Tests.{both_ways}
use Rattle.reader.specs.Lines.{LF}
use Rattle.reader.proofs.Along.{suffix_at, suffix_drop}
use Rattle.record.specs.Refusals.{bad_window}
use Rattle.chunks.specs.Begun.{Kept, Begun, nothing, is_empty, brief, stands_for, add, counted, Sought, ended, unended, seek, look}
use Rattle.chunks.specs.Next.{kept_in, begun, holding, past_line, number_behind}
use Rattle.chunks.specs.Line.{kept_at, line_place, found_line, of_found, Finds, NextLine}
use Rattle.chunks.specs.declared.Chunks.{Chunks}
use Rattle.chunks.specs.declared.LineReply.{LineReply}
use Rattle.chunks.specs.declared.LineReply.TheVariants.{InChunk, InCarry, UsedUp, Done, CarryTooSmall}
use Rattle.chunks.specs.declared.LineStep.{LineStep}
use Rattle.chunks.proofs.Pieces.{M}
use Rattle.chunks.proofs.Rows.{Sound, Fine, fine, sound_begun}
use Rattle.chunks.proofs.Calls.{fits}
use Rattle.chunks.proofs.FirstTests.{big_enough, line_on}
use Rattle.steps.specs.declared.Tally.{Tally as CodeTally}
use Rattle.steps.specs.Steps.{Placement, Action, Tally, refused, Turn, turn}
use Rattle.steps.specs.Steps as steps
use Rattle.steps.specs.Source.{Source}
use Rattle.steps.specs.Taken.{Standing, Went, on, stopped, placed_by, onward, acted, at_line}
use Rattle.steps.specs.Told.{told_loading}
use Rattle.window.specs.Window.{within}
use Rattle.loader.specs.declared.Base.{Base as CodeBase}
use Rattle.intake.specs.declared.Turn.{Turn as CodeTurn}
use Rattle.intake.specs.declared.Turn.TheVariants as code
use Rattle.intake.specs.declared.Walk.{Walk}
use Rattle.intake.specs.declared.Heard.TheVariants as heard
use Rattle.intake.specs.Machine.{Fed, wants_more, decided, after_line, Taking, takes, fed}
use Rattle.intake.specs.Ways.{StandingBy, Way}
use Rattle.intake.specs.Helpers.{in_line, KeptSo, TurnedBy, Keeps, Turned, hears, count_of, UnderWay, to_come, HeardBy, KeepsOn, HeardSo}
use Rattle.intake.proofs.Ways.{Lawful}

-- ---- a search finds what the machine meets

-- what comes of what a search found, with l the number of the line that was found last
unfoldable pub of_search : {S : Type 0} → Taking S → (l : ℕ) → Standing S → Sought → Fed S
of_search take l st (unended e b) = wants_more ((l + e) % M) st b
of_search take l st (ended start e k rest) =
    after_line ((l + counted e) % M) rest (take ((l + counted e) % M) st (stands_for k)) (λ st'. fed take ((l + counted e) % M) st' nothing rest)

counted_on : (l e : ℕ) → counted ((l + e) % M) ≡ (l + counted e) % M
counted_on l e = omega arith

seek_fed : {S : Type 0} (take : Taking S) (l : ℕ) (st : Standing S) (text : List ℕ) (e : ℕ) (b : Begun) (start : Option (List ℕ))
    → fed take ((l + e) % M) st b text ≡ of_search take l st (seek start e b text)
unfolding fed of_search seek
seek_fed take l st [] e b start = refl
seek_fed {S} take l st (c ∷ text) e b start =
    both_ways
    (λ lf. (if lf then at_LF (is_empty b.kept.bytes) (counted ((l + e) % M)) else fed take ((l + e) % M) st (add b c) text)
    ≡ of_search take l st (if lf then (if is_empty b.kept.bytes then seek (some text) (counted e) nothing text else ended start e b.kept text) else seek start e (add b c) text))
    (eqb c LF) (rw (counted_on l e) (ends (is_empty b.kept.bytes) (seek_fed take l st text (counted e) nothing (some text)))) (seek_fed take l st text e (add b c) start)
  where
    at_LF : (empty : Bool) (n : ℕ) → Fed S
    at_LF empty n = if empty then fed take n st nothing text else after_line n text (take n st (stands_for b.kept)) (λ st'. fed take n st' nothing text)

    ends : (empty : Bool) → fed take ((l + counted e) % M) st nothing text ≡ of_search take l st (seek (some text) (counted e) nothing text)
        → at_LF empty ((l + counted e) % M) ≡ of_search take l st (if empty then seek (some text) (counted e) nothing text else ended start e b.kept text)
    ends true ih = ih
    ends false ih = refl

pub look_fed : {S : Type 0} (take : Taking S) (l : ℕ) (st : Standing S) (e : ℕ) (b : Begun) (text : List ℕ) → fed take ((l + e) % M) st b text ≡ of_search take l st (look e b text)
unfolding look
look_fed take l st e b text = seek_fed take l st text e b _

-- ---- placements that were stated before

abbrev pub before : {S : Type 0} → List Placement → Standing S → Standing S
before qs st = record { state = st.state; tally = st.tally; stated = qs ++ st.stated }

abbrev pub went_before : {S : Type 0} → List Placement → Went S → Went S
went_before qs (on st) = on (before qs st)
went_before qs (stopped v ps) = stopped v (qs ++ ps)

acted_before : {S : Type 0} (inside : ℕ → Bool) (n : ℕ) (s : S) (qs : List Placement) (acts : List Action) (t : Tally) (ps : List Placement)
    → acted inside n s t (qs ++ ps) acts ≡ went_before qs (acted inside n s t ps acts)
unfolding acted
acted_before inside n s qs [] t ps = refl
acted_before {S} inside n s qs (a ∷ acts) t ps = go (turn inside t n a) (λ t'. acted_before inside n s qs acts t' (ps ++ placed_by a))
  where
    go : (x : Turn) → ((t' : Tally) → acted inside n s t' (qs ++ (ps ++ placed_by a)) acts ≡ went_before qs (acted inside n s t' (ps ++ placed_by a) acts))
        → onward x (qs ++ ps) (λ t'. acted inside n s t' ((qs ++ ps) ++ placed_by a) acts) ≡ went_before qs (onward x ps (λ t'. acted inside n s t' (ps ++ placed_by a) acts))
    go (steps.on t') ih = ap (λ (rs : List Placement). acted inside n s t' rs acts) (append_assoc qs ps (placed_by a)) ∙ ih t'
    go (steps.stop v) ih = refl

pub takes_before : {S : Type 0} (src : Source S) (inside : ℕ → Bool) (n : ℕ) (qs : List Placement) (st : Standing S) (line : List ℕ)
    → takes src inside n (before qs st) line ≡ went_before qs (takes src inside n st line)
unfolding takes at_line
takes_before {S} src inside n qs st line = go (eqb st.tally.records (2 ^ 64 - 1))
  where
    went : List Placement → Went S
    went ps = acted inside n (src.next st.state line) st.tally ps (src.act st.state line)

    go : (full : Bool) → (if full then stopped (refused bad_window 0) (qs ++ st.stated) else went (qs ++ st.stated)) ≡ went_before qs (if full then stopped (refused bad_window 0) st.stated else went st.stated)
    go true = refl
    go false = acted_before inside n (src.next st.state line) qs (src.act st.state line) st.tally st.stated

-- ---- what is kept of a line is taken as the line

-- bytes of a line, with so many digits left out, are taken as what is kept of it stands for
abbrev pub StandsIn : {S : Type 0} → Source S → (inside : ℕ → Bool) (skipped : ℕ) (bytes : List ℕ) → Kept → Type 0
StandsIn {S} src inside skipped bytes k = (n : ℕ) (st : Standing S) → in_line skipped (takes src inside n st bytes) ≡ takes src inside n st (stands_for k)

module _ {S : Type 0} (src : Source S) (inside : ℕ → Bool) where
  takes_moved : (m n : ℕ) (st : Standing S) (bytes line : List ℕ) → in_line m (at_line src inside n st bytes) ≡ at_line src inside n st line
      → in_line m (takes src inside n st bytes) ≡ takes src inside n st line
  unfolding takes
  takes_moved m n st bytes line e = go (eqb st.tally.records (2 ^ 64 - 1))
    where
      go : (full : Bool) → in_line m (if full then stopped (refused bad_window 0) st.stated else at_line src inside n st bytes) ≡ (if full then stopped (refused bad_window 0) st.stated else at_line src inside n st line)
      go true = refl
      go false = e

  pub chunk_stands : KeptSo src → (line : List ℕ) → StandsIn src inside 0 line (brief line)
  chunk_stands h line n st = takes_moved 0 n st line (stands_for (brief line)) (h.in_chunk inside n st line)

  pub carry_stands : KeptSo src → (k : Kept) → length k.bytes ≤ 522 → StandsIn src inside k.skipped k.bytes k
  carry_stands h k few n st = takes_moved k.skipped n st k.bytes (stands_for k) (h.in_carry inside n st k few)

-- ---- what a search found

-- the line that was found: where the reader stands after it, and what is left of the chunk
pub record LineFound (s : Chunks) (chunk carry : List ℕ) (after : Chunks) (k : Kept) : Type 0 where
  pub start : Option (List ℕ)
  pub empties : ℕ
  pub rest : List ℕ
  pub is_found : look s.empties (begun s carry) (drop s.position chunk) ≡ ended start empties k rest
  pub state_is : after ≡ past_line s (length chunk - length rest) (number_behind s empties) false
  pub left : drop (length chunk - length rest) chunk ≡ rest
  pub further : s.position < length chunk - length rest

-- there was no line: what is begun is in the carry
pub record NoneFound (s : Chunks) (chunk carry : List ℕ) (after : Chunks) (carry' : List ℕ) : Type 0 where
  pub empties : ℕ
  pub is_begun : Begun
  pub is_found : look s.empties (begun s carry) (drop s.position chunk) ≡ unended empties is_begun
  pub state_is : after ≡ holding s empties is_begun
  pub in_carry : begun (holding s empties is_begun) carry' ≡ is_begun
  pub short : length is_begun.kept.bytes ≤ 522

-- a carry that holds what is kept of a line that is begun
begun_held : (s : Chunks) (n : ℕ) (b : Begun) (carry : List ℕ) → Sound b.kept → take (length b.kept.bytes) carry ≡ b.kept.bytes → begun (holding s n b) carry ≡ b
begun_held s n b carry h e =
    ap₂ (λ (bytes : List ℕ) (m : ℕ). record { kept = record { bytes = bytes; skipped = m }; cr = b.cr }) e (out (ltb (length b.kept.bytes) 522) refl)
  where
    out : (t : Bool) → ltb (length b.kept.bytes) 522 ≡ t → (if t then 0 else b.kept.skipped) ≡ b.kept.skipped
    out true l = sym (h.none_out (ltb-true (length b.kept.bytes) 522 l))
    out false l = refl

-- what is known by the reply: a search that is under way finds a line, or the chunk is used up
abbrev pub FoundBy : Chunks → (chunk carry : List ℕ) (after : Chunks) (carry' : List ℕ) → LineReply → Type 0
FoundBy s chunk carry after carry' (InChunk from len) = LineFound s chunk carry after (brief (take len (drop from chunk)))
FoundBy s chunk carry after carry' (InCarry len skipped) = LineFound s chunk carry after (kept_in carry' len skipped)
FoundBy s chunk carry after carry' UsedUp = NoneFound s chunk carry after carry'
FoundBy s chunk carry after carry' Done = ⊥
FoundBy s chunk carry after carry' CarryTooSmall = ⊥

module _ (s : Chunks) (chunk carry : List ℕ) (step : LineStep) (carry' : List ℕ) (on_way : UnderWay s carry) (found : NextLine s chunk carry step carry') where
  abbrev text : List ℕ
  text = drop s.position chunk

  abbrev FoundSo : Sought → Type 0
  FoundSo f = (look s.empties (begun s carry) text ≡ f) × Finds (of_found s chunk f) chunk step carry' × Fine f text

  found_so : FoundSo (look s.empties (begun s carry) text)
  unfolding look
  found_so =
      let (big, few) = fits s carry on_way.big_enough in (
        refl,
        rw (line_on s chunk carry on_way.big_enough on_way.going) at found,
        fine text _ s.empties (begun s carry) (sound_begun s carry big few),
      )

  line : (start : Option (List ℕ)) (n : ℕ) (k k' : Kept) (rest : List ℕ) → FoundSo (ended start n k rest) → k' ≡ k → LineFound s chunk carry step.state k'
  unfolding of_found found_line Fine
  line start n k k' rest (is, finds, (c, p, e)) same =
      let size : length text ≡ suc (length p + length rest) = ap length e ∙ ap (λ (m : ℕ). suc m) (length-append p rest) in
      let d = length-drop s.position chunk in
      record {
        start = start;
        empties = n;
        rest = rest;
        is_found = is ∙ ap (λ (x : Kept). ended start n x rest) (sym same);
        state_is = finds.state;
        left = suffix_at rest chunk (suffix_drop s.position rest chunk (c ∷ p, e));
        further = omega arith;
      }

  abbrev Known : LineReply → Type 0
  Known r = FoundBy s chunk carry step.state carry' r

  by_sought : (f : Sought) → FoundSo f → Known step.reply
  unfolding of_found found_line line_place Fine
  by_sought (ended (some t) n k rest) h =
      let answer : step.reply ≡ line_place chunk (some t) k = h.1.answer in
      subst Known (sym answer) (line (some t) n k _ rest h (subst (λ (x : LineReply). kept_at x chunk carry' ≡ k) answer h.1.line))
  by_sought (ended none n k rest) h =
      let answer : step.reply ≡ line_place chunk none k = h.1.answer in
      subst Known (sym answer) (line none n k _ rest h (subst (λ (x : LineReply). kept_at x chunk carry' ≡ k) answer h.1.line))
  by_sought (unended n b) (is, finds, h) =
      subst Known (sym finds.answer) (record { empties = n; is_begun = b; is_found = is; state_is = finds.state; in_carry = begun_held s n b carry' h finds.carry; short = h.short })

  pub found_by : (r : LineReply) → step.reply ≡ r → FoundBy s chunk carry step.state carry' r
  found_by r e = subst Known e (by_sought (look s.empties (begun s carry) text) found_so)

-- ---- what was heard

module _ {S : Type 0} (src : Source S) (standing : StandingBy S) (first : ℕ) (w : Walk) (chunk carry page₀ marks₀ carry' : List ℕ)
    (plain : (base : CodeBase) (tally : CodeTally) (qs ps : List Placement) → standing base tally (qs ++ ps) ≡ before qs (standing base tally ps)) where
  abbrev inside : ℕ → Bool
  inside = within first (length page₀)

  abbrev s : Chunks
  s = w.reader

  abbrev still : List Placement → Fed S
  still qs = to_come src standing inside w chunk carry qs

  searched : (f : Sought) → look s.empties (begun s carry) (drop s.position chunk) ≡ f → (qs : List Placement)
      → still qs ≡ of_search (takes src inside) s.line (standing w.base w.tally qs) f
  searched f e qs =
      look_fed (takes src inside) s.line (standing w.base w.tally qs) s.empties (begun s carry) (drop s.position chunk)
      ∙ ap (of_search (takes src inside) s.line (standing w.base w.tally qs)) e

  pub heard_none : (after : Chunks) → NoneFound s chunk carry after carry'
      → HeardBy src standing first w chunk carry page₀ marks₀ (heard.UsedUp (record { reader = after; base = w.base; tally = w.tally })) carry' page₀ marks₀
  unfolding of_search
  heard_none after f =
      subst (λ (x : Chunks). HeardBy src standing first w chunk carry page₀ marks₀ (heard.UsedUp (record { reader = x; base = w.base; tally = w.tally })) carry' page₀ marks₀) (sym f.state_is)
      (record {
        comes_to = λ qs. searched (unended f.empties f.is_begun) f.is_found qs
            ∙ ap (wants_more (count_of (holding s f.empties f.is_begun)) (standing w.base w.tally qs)) (sym f.in_carry);
        fits = f.short;
        page_is = refl;
        marks_are = refl;
      })

  module _ (big : 522 ≤ length carry') (bytes : List ℕ) (skipped : ℕ) (k : Kept) (stands : StandsIn src inside skipped bytes k) where
    -- the line, with placements that were stated before
    came : (n : ℕ) (went : Went S) → in_line skipped (takes src inside n (standing w.base w.tally []) bytes) ≡ went → (qs : List Placement)
        → takes src inside n (standing w.base w.tally qs) (stands_for k) ≡ went_before qs went
    came n went e qs =
        ap (λ (x : Standing S). takes src inside n x (stands_for k)) (ap (standing w.base w.tally) (sym (append-nil qs)) ∙ plain w.base w.tally qs [])
        ∙ takes_before src inside n qs (standing w.base w.tally []) (stands_for k)
        ∙ ap (went_before qs) (sym (stands n (standing w.base w.tally [])) ∙ e)

    module _ (start : Option (List ℕ)) (e : ℕ) (rest : List ℕ) (is : look s.empties (begun s carry) (drop s.position chunk) ≡ ended start e k rest)
        (left : drop (length chunk - length rest) chunk ≡ rest) (further : s.position < length chunk - length rest) (page' marks' : List ℕ) where
      abbrev n : ℕ
      n = number_behind s e

      abbrev after : Chunks
      after = past_line s (length chunk - length rest) n false

      line_came : (went : Went S) → in_line skipped (takes src inside n (standing w.base w.tally []) bytes) ≡ went → (qs : List Placement)
          → still qs ≡ after_line n rest (went_before qs went) (λ st'. fed (takes src inside) n st' nothing rest)
      unfolding of_search
      line_came went h qs = searched (ended start e k rest) is qs ∙ ap (λ (x : Went S). after_line n rest x (λ st'. fed (takes src inside) n st' nothing rest)) (came n went h qs)

      at_turn : (t : CodeTurn) → TurnedBy src standing bytes skipped n w.base w.tally first page₀ marks₀ t page' marks'
          → HeardBy src standing first w chunk carry page₀ marks₀ (hears after t) carry' page' marks'
      at_turn (code.On base tally) h =
          let same : n ≡ (n + 0) % M = omega arith in
          record {
            stated = h.stated;
            comes_to = λ qs. line_came (on (standing base tally h.stated)) h.comes_to qs
                ∙ ap (λ (st : Standing S). fed (takes src inside) n st nothing rest) (sym (plain base tally qs h.stated))
                ∙ ap (λ (m : ℕ). fed (takes src inside) m (standing base tally (qs ++ h.stated)) nothing rest) same
                ∙ ap (fed (takes src inside) ((n + 0) % M) (standing base tally (qs ++ h.stated)) nothing) (sym left);
            paints = h.paints;
            under_way = record { big_enough = big_enough after carry' big (omega arith); going = refl };
            further = further;
            inside = omega arith;
          }
      at_turn (code.Stop l) h =
          record {
            line = n;
            stated = h.stated;
            comes_to = λ qs. line_came (stopped (told_loading l) h.stated) h.comes_to qs ∙ ap (decided n (told_loading l) (qs ++ h.stated)) (sym left);
            paints = h.paints;
            inside = omega arith;
          }

    pub heard_line : (after : Chunks) → LineFound s chunk carry after k → (t : CodeTurn) (page' marks' : List ℕ)
        → TurnedBy src standing bytes skipped after.line w.base w.tally first page₀ marks₀ t page' marks'
        → HeardBy src standing first w chunk carry page₀ marks₀ (hears after t) carry' page' marks'
    heard_line after f t page' marks' h =
        subst (λ (x : Chunks). HeardBy src standing first w chunk carry page₀ marks₀ (hears x t) carry' page' marks') (sym f.state_is)
        (at_turn f.start f.empties f.rest f.is_found f.left f.further page' marks' t
        (subst (λ (x : Chunks). TurnedBy src standing bytes skipped x.line w.base w.tally first page₀ marks₀ t page' marks') f.state_is h))

-- ---- of a way

keeps_on : (way : Way) (w : Walk) (after : Chunks) (t : CodeTurn) → Keeps way w.base w.tally t → KeepsOn way w (hears after t)
keeps_on way w after (code.On base tally) h = h
keeps_on way w after (code.Stop l) h = h

module _ (way : Way) (law : Lawful way) (first : ℕ) (w : Walk) (chunk carry page₀ marks₀ carry' : List ℕ) (after : Chunks) where
  pub used_up_so : NoneFound w.reader chunk carry after carry'
      → HeardSo way first w chunk carry page₀ marks₀ (heard.UsedUp (record { reader = after; base = w.base; tally = w.tally })) carry' page₀ marks₀
  used_up_so f = (heard_none way.source way.standing first w chunk carry page₀ marks₀ carry' law.plain after f, law.still w.base w.tally)

  module _ (big : 522 ≤ length carry') (t : CodeTurn) (page' marks' : List ℕ) where
    line_so : (bytes : List ℕ) (skipped : ℕ) (k : Kept) → StandsIn way.source (within first (length page₀)) skipped bytes k
        → LineFound w.reader chunk carry after k
        → Turned way bytes skipped after.line w.base w.tally first page₀ marks₀ t page' marks'
        → HeardSo way first w chunk carry page₀ marks₀ (hears after t) carry' page' marks'
    line_so bytes skipped k stands f (h, keeps) = (
      heard_line way.source way.standing first w chunk carry page₀ marks₀ carry' law.plain big bytes skipped k stands after f t page' marks' h,
      keeps_on way w after t keeps,
    )

    pub in_chunk_so : (line : List ℕ) → LineFound w.reader chunk carry after (brief line)
        → Turned way line 0 after.line w.base w.tally first page₀ marks₀ t page' marks'
        → HeardSo way first w chunk carry page₀ marks₀ (hears after t) carry' page' marks'
    in_chunk_so line f h = line_so line 0 (brief line) (chunk_stands way.source (within first (length page₀)) law.kept line) f h

    pub in_carry_so : (k : Kept) → length k.bytes ≤ 522 → LineFound w.reader chunk carry after k
        → Turned way k.bytes k.skipped after.line w.base w.tally first page₀ marks₀ t page' marks'
        → HeardSo way first w chunk carry page₀ marks₀ (hears after t) carry' page' marks'
    in_carry_so k few f h = line_so k.bytes k.skipped k (carry_stands way.source (within first (length page₀)) law.kept k few) f h
