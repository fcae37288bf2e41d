-- What a text states is bytes, so a count has 16 bits.
-- Assumes nothing.
use Rattle.std.proofs.Common.{◌≡◌, ℕ, suc, ◌<◌, Bool, true, false, eqb, leb, List, [], ◌∷◌, map, refl, arith}
use mathlib.Core.Option.{Option, none, some}
use Rattle.digits.specs.Common.{or_else, Every, Byte}
use Rattle.std.specs.Prelude.{if◌then◌else◌}
use Rattle.record.specs.Line.{Said, says, wrong, judge}
use Rattle.record.specs.Meaning.{Meaning, data_at, end_of_file, extended_segment, start_segment, extended_linear, start_linear, meaning}
use Rattle.record.specs.Written.{Sayable}
use Rattle.record.proofs.Writing.{said_is_sayable}
use Rattle.srec.specs.Line as srec
use Rattle.srec.proofs.Writing.{said_is_bounded}
use Rattle.reader.specs.Lines.{lines}
use Rattle.steps.specs.Steps.{Placement, Action, places, starts, counts, finishes, fails, Step, step, Verdict, accepted, refused, verdict, stated}
use Rattle.steps.specs.Source.{Source, steps, steps_of}
use Rattle.steps.specs.Sites.{last_at, stopping_in}
use Rattle.steps.specs.Runs.{spread}
use Rattle.intel.specs.Placing.{Base, does, act, intel_by, intel}
use Rattle.srecload.specs.Placing.{s_header, s_data, s_count, s_end, s_meaning, s_does, s_act, s_records}
use Rattle.window.specs.Window.{window, one_window}
use Rattle.light.specs.declared.Light.{Light}
use Rattle.light.specs.Colors.{refused_one, Sixteen}
use Rattle.light.specs.Claims.{count_of, stated_for, said_by, said, hex, srecords, SaidSixteen}
use Rattle.light.proofs.Colors.{every_joined}

-- ---- bytes that are placed

abbrev Small : Placement → Type 0
Small p = p.byte < 256

abbrev PlacedSmall : Action → Type 0
PlacedSmall (places what) = Every Small what
PlacedSmall (starts s) = Unit
PlacedSmall (counts c) = Unit
PlacedSmall finishes = Unit
PlacedSmall (fails r) = Unit

abbrev SmallStep : Step → Type 0
SmallStep (step n a) = PlacedSmall a

spread_small : (at : ℕ → ℕ) (i : ℕ) (bytes : List ℕ) → Every Byte bytes → Every Small (spread at i bytes)
unfolding spread
spread_small at i [] h = tt
spread_small at i (b ∷ bytes) (h, hs) = (h, spread_small at (suc i) bytes hs)

-- ---- what steps state

stated_small : (ss : List Step) → Every SmallStep ss → Every Small (stated ss)
unfolding stated
stated_small [] h = tt
stated_small (step n (places what) ∷ ss) (h, hs) = every_joined Small what (stated ss) h (stated_small ss hs)
stated_small (step n (starts s) ∷ ss) (h, hs) = stated_small ss hs
stated_small (step n (counts c) ∷ ss) (h, hs) = stated_small ss hs
stated_small (step n finishes ∷ ss) h = tt
stated_small (step n (fails r) ∷ ss) h = tt

numbered_small : (n : ℕ) (actions : List Action) → Every PlacedSmall actions → Every SmallStep (map (step n) actions)
numbered_small n [] h = tt
numbered_small n (a ∷ actions) (h, hs) = (h, numbered_small n actions hs)

module _ {S : Type 0} (src : Source S) (small : (s : S) (line : List ℕ) → Every PlacedSmall (src.act s line)) where
  lines_small : (s : S) (n : ℕ) (ls : List (List ℕ)) → Every SmallStep (steps src s n ls)
  unfolding steps
  lines_small s n [] = tt
  lines_small s n ([] ∷ ls) = lines_small s (suc n) ls
  lines_small s n ((c ∷ line) ∷ ls) =
      every_joined SmallStep (map (step n) (src.act s (c ∷ line))) (steps src (src.next s (c ∷ line)) (suc n) ls) (numbered_small n (src.act s (c ∷ line)) (small s (c ∷ line)))
      (lines_small (src.next s (c ∷ line)) (suc n) ls)

  text_small : (text : List ℕ) → Every Small (stated (steps_of src text))
  unfolding steps_of
  text_small text = stated_small (steps_of src text) (lines_small src.beginning 1 (lines text))

-- ---- the two sources

does_small : (base : Base) (m : Meaning) → Sayable m → Every PlacedSmall (does base m)
unfolding does
does_small base (data_at offset bytes) h = (spread_small _ 0 bytes h.2, tt)
does_small base end_of_file h = (tt, tt)
does_small base (extended_segment n) h = tt
does_small base (start_segment cs ip) h = (tt, tt)
does_small base (extended_linear n) h = tt
does_small base (start_linear n) h = (tt, tt)

intel_small : (base : Base) (line : List ℕ) → Every PlacedSmall (intel.act base line)
unfolding intel_by act
intel_small base line = go (judge line) refl
  where
    go : (s : Said) → judge line ≡ s → Every PlacedSmall (act base s)
    go (says kind address payload) e = does_small base (meaning kind address payload) (said_is_sayable line kind address payload e)
    go (wrong r) e = (tt, tt)

s_records_small : (s : Unit) (line : List ℕ) → Every PlacedSmall (s_records.act s line)
unfolding s_records s_act s_meaning s_does
s_records_small s line = go (srec.judge line) refl
  where
    by_type : (a b c : Bool) (address : ℕ) (payload : List ℕ) → Every Byte payload
        → Every PlacedSmall (s_does (if a then s_header else if b then s_data address payload else if c then s_count address else s_end address))
    by_type true b c address payload h = tt
    by_type false true c address payload h = (spread_small _ 0 payload h, tt)
    by_type false false true address payload h = (tt, tt)
    by_type false false false address payload h = (tt, (tt, tt))

    go : (x : Said) → srec.judge line ≡ x → Every PlacedSmall (s_act x)
    go (says kind address payload) e = by_type (eqb kind 0) (leb kind 3) (eqb kind 5) address payload (said_is_bounded line kind address payload e).payload_bytes
    go (wrong r) e = (tt, tt)

-- ---- a count

-- a byte, if there is one
abbrev OptionSmall : Option ℕ → Type 0
OptionSmall none = Unit
OptionSmall (some b) = b < 256

last_small : (address : ℕ) (ps : List Placement) → Every Small ps → OptionSmall (last_at address ps)
unfolding last_at
last_small address [] h = tt
last_small address (p ∷ ps) (h, hs) = go (last_at address ps) (eqb p.address address) (last_small address ps hs)
  where
    go : (later : Option ℕ) (b : Bool) → OptionSmall later → OptionSmall (or_else later (if b then some p.byte else none))
    go (some x) b k = k
    go none true k = h
    go none false k = tt

shown_small : (shows : Option ℕ) (ps : List Placement) → Every Small ps → OptionSmall (stated_for shows ps)
shown_small none ps h = tt
shown_small (some address) ps h = last_small address ps h

count_small : (high low : Option ℕ) → OptionSmall high → OptionSmall low → Sixteen (count_of high low)
count_small none low h k = tt
count_small (some x) none h k = tt
count_small (some x) (some y) h k = omega (arith, h, k)

by_small : (shows : ℕ → Option ℕ) (high low : ℕ) (ps : List Placement) (v : Verdict) → Every Small ps → Sixteen (said_by shows high low ps v)
unfolding said_by
by_small shows high low ps (accepted t) h = count_small (stated_for (shows high) ps) (stated_for (shows low) ps) (shown_small (shows high) ps h) (shown_small (shows low) ps h)
by_small shows high low ps (refused r n) h = tt

said_small : (l : Light) (ss : List Step) (page marks : ℕ) → Every Small (stated ss) → Sixteen (said l ss page marks)
unfolding said
said_small l ss page marks h = go (eqb page l.length)
  where
    go : (b : Bool) → Sixteen (if b then said_by (window l.first page) l.high l.low (stated ss) (verdict (stopping_in (one_window l.first page marks) ss)) else refused_one)
    go true = by_small (window l.first page) l.high l.low (stated ss) (verdict (stopping_in (one_window l.first page marks) ss)) h
    go false = tt

pub said_sixteen : SaidSixteen
said_sixteen l hex text page marks = said_small l (steps_of intel text) page marks (text_small intel intel_small text)
said_sixteen l srecords text page marks = said_small l (steps_of s_records text) page marks (text_small s_records s_records_small text)
