-- The claims of `specs/Claims.antt`, proved: the walk over the lines of a text gives each answer its reason.
-- Assumes nothing.
use Rattle.std.proofs.Common.{◌≡◌, ℕ, true, List, [], ◌∷◌, sym, refl, ap, ◌∙◌, subst, arith}
use mathlib.Core.Option.{Option, none, some}
use Rattle.digits.specs.Digits.{number_after}
use Rattle.digits.specs.Reading.{named}
use Rattle.record.specs.Refusals.{Refusal, number_of, contains_invalid_characters, missing_end_of_file_record, start_conflict}
use Rattle.record.specs.Line.{judge}
use Rattle.record.specs.Meaning.{meaning}
use Rattle.reader.specs.Lines.{lines}
use Rattle.reader.specs.Claims.{Offends}
use Rattle.steps.specs.Steps.{Placement, Tally, nothing_yet, Verdict, accepted, refused, Decision, by, decision, verdict, stated}
use Rattle.steps.specs.Source as source
use Rattle.steps.specs.Sites.{last_at}
use Rattle.steps.specs.Account.{AllPass, all_states, one_of}
use Rattle.steps.specs.Ask.{anywhere, Asked, states, refuses, found, answered, ask_steps}
use Rattle.steps.specs.Ask as steps
use Rattle.steps.proofs.Told.{told_apart}
use Rattle.steps.proofs.Ask.{asked_nothing_after_the_LF}
use Rattle.steps.proofs.Firsts.{Walked, none_decided, one_decided, as_decided}
use Rattle.steps.proofs.Puts.{Among as Put-among, among, one_last}
use Rattle.intel.specs.Placing.{intel, intel_by, steps_of, placements}
use Rattle.intel.specs.Lines.{in_force, data_records, Stops, the_end, no_record, first_outside, start_differs, account}
use Rattle.intel.proofs.Reasons.{counted_none, walked}
use Rattle.intel.proofs.OneReason.{sound}
use Rattle.intel.proofs.Puts.{holding, from_puts, to_puts, PutThere, one_byte, of_last}
use Rattle.record.proofs.Standing.{Stands, stands}
use Rattle.intel.proofs.Claims.{fault_among, named_by}
use Rattle.query.specs.Aliases.{Asked as CodeAsked}
use Rattle.query.specs.Ask.{told_asked}
use Rattle.query.specs.Claims.{PutsLast, this_byte, no_byte, AtLine, Why, no_end, bad_line, at_end, Reasons, OneReason, Among, Total, AskNamesTheOffender, RefusedEverywhere, NothingAfter, AskUnique, Examples}
use Rattle.std.specs.Prelude.{None, Ok, Some}
use Rattle.steps.specs.Aliases.{refuse}
use Rattle.std.specs.Prelude.{Err}

pub examples : Examples
unfolding steps.ask ask_steps source.steps_of stated decision verdict last_at intel_by judge meaning number_after
examples =
    record {
      found = refl;
      elsewhere = refl;
      no_window = refl;
      found_then_refused = refl;
      found_without_end = refl;
      last_wins = refl;
      after_the_end = refl;
      wraps = refl;
      no_further = refl;
      at_the_top = refl;
      from_the_top = refl;
      two_starts = refl;
    }

-- ---- what lines put, and what is found

module _ (ahead : List (List ℕ)) (address : ℕ) where
  puts_last : (o : Option ℕ) → Put-among holding address [] ahead o → PutsLast ahead address (found o)
  puts_last none f = no_byte (λ n dri b p. f n dri b (from_puts ahead n dri address b p))
  puts_last (some b) (line, i, p, later) =
      this_byte b (record { line = line; dri = i; puts = to_puts ahead line i address b p; none_later = λ n d c q. later n d c (from_puts ahead n d address c q) })

  only_found : {a : Asked} (o : Option ℕ) → Put-among holding address [] ahead o → PutsLast ahead address a → a ≡ found o
  only_found none f (this_byte b l) = absurd (f l.line l.dri b (from_puts ahead l.line l.dri address b l.puts))
  only_found none f (no_byte g) = refl
  only_found (some c) (line, i, p, later) (this_byte b l) =
      ap states (one_last (PutThere ahead address) (one_byte ahead address) b c (of_last ahead address l)
      (record { line = line; i = i; puts = to_puts ahead line i address c p; none_later = λ n d e q. later n d e (from_puts ahead n d address e q) }))
  only_found (some c) (line, i, p, later) (no_byte g) = absurd (g line i c (to_puts ahead line i address c p))

-- ---- reasons

pub reasons : Reasons
unfolding steps.ask ask_steps verdict source.steps_of in_force data_records intel_by
reasons text address = go (decision anywhere nothing_yet (steps_of text)) (walked anywhere (lines text) 1 [] nothing_yet counted_none)
  where
    go : (d : Option Decision) → Walked (account anywhere) [] (steps_of text) 1 (lines text) d → Why text address (answered (last_at address (placements text)) (verdict d))
    go none all = no_end all
    go (some (by n (refused r line))) f = bad_line n r line (as_decided (account anywhere) (steps_of text) (lines text) n (refused r line) f)
    go (some (by n (accepted t))) f =
        let d = as_decided (account anywhere) (steps_of text) (lines text) n (accepted t) f in
        at_end n t d (found (last_at address (placements text))) (rw (d.stated t refl) (puts_last d.ahead address (last_at address (all_states (account anywhere).states [] d.ahead)) (among holding address [] d.ahead)))

pub one_reason : OneReason
one_reason text address a a' = go
  where
    all : {n : ℕ} {v : Verdict} → AllPass (account anywhere) [] (lines text) → AtLine text n v → ⊥
    all h d = none_decided (account anywhere) (sound anywhere) (steps_of text) (lines text) h d

    one : {n n' : ℕ} {v v' : Verdict} → AtLine text n v → AtLine text n' v' → v ≡ v'
    one d d' = one_decided (account anywhere) (sound anywhere) (steps_of text) (lines text) d d'

    -- what the lines before the end put is what the text states
    is_found : {n : ℕ} {t : Tally} {b : Asked} (d : AtLine text n (accepted t)) → PutsLast d.ahead address b → b ≡ found (last_at address (placements text))
    is_found {t = t} d p =
        only_found d.ahead address (last_at address (all_states (account anywhere).states [] d.ahead)) (among holding address [] d.ahead) p
        ∙ ap (λ (ps : List Placement). found (last_at address ps)) (sym (d.stated t refl))

    go : {b b' : Asked} → Why text address b → Why text address b' → b ≡ b'
    go (no_end h) (no_end h') = refl
    go (no_end h) (bad_line n r line d) = absurd (all h d)
    go (no_end h) (at_end n t d b p) = absurd (all h d)
    go (bad_line n r line d) (no_end h) = absurd (all h d)
    go (bad_line n r line d) (bad_line n' r' line' d') = let e = one d d' in cc
    go (bad_line n r line d) (at_end n' t d' b p) = let e = one d d' in let z : ◌≡◌ {A = ℕ} 0 1 = cc in absurd (omega arith)
    go (at_end n t d b p) (no_end h) = absurd (all h d)
    go (at_end n t d b p) (bad_line n' r line d') = let e = one d d' in let z : ◌≡◌ {A = ℕ} 0 1 = cc in absurd (omega arith)
    go (at_end n t d b p) (at_end n' t' d' b' p') = is_found d p ∙ sym (is_found d' p')

-- ---- the numbers of refusals

-- with every address inside, a line gives no 17
stops_among : {ahead : List (List ℕ)} {line : List ℕ} {n m : ℕ} {v : Verdict} {r : Refusal} → Stops anywhere ahead line n v → v ≡ refused r m
    → one_of (1 ∷ 2 ∷ 3 ∷ 4 ∷ 5 ∷ 6 ∷ 7 ∷ 8 ∷ 9 ∷ 13 ∷ 21 ∷ []) (number_of r) ≡ true
stops_among (the_end tally e c) q = let z : ◌≡◌ {A = ℕ} 0 1 = cc in absurd (omega arith)
stops_among {line} {r} (no_record w b e) q = let is : w ≡ r = cc in rw (← is) (fault_among (13 ∷ 21 ∷ []) (subst (Stands line) e (stands line)))
stops_among (first_outside before after p e i o) q = let z : ◌≡◌ {A = ℕ} 0 1 = cc in absurd (omega arith)
stops_among {r} (start_differs s first e a d) q = let is : start_conflict ≡ r = cc in rw (← is) refl

pub total : Total
total text address = go (reasons text address)
  where
    go : {a : Asked} → Why text address a → Among (1 ∷ 2 ∷ 3 ∷ 4 ∷ 5 ∷ 6 ∷ 7 ∷ 8 ∷ 9 ∷ 13 ∷ 21 ∷ []) a
    go (no_end h) = refl
    go (bad_line n r line d) = stops_among d.stops refl
    go (at_end n t d a (this_byte b l)) = tt
    go (at_end n t d a (no_byte f)) = tt

pub ask_names_the_offender : AskNamesTheOffender
ask_names_the_offender text address r n e two = go (reasons text address) e
  where
    go : {a : Asked} → Why text address a → a ≡ refuses r n → (place : ℕ) × Offends text n place × (r ≡ contains_invalid_characters (named place))
    go (no_end h) q = let is : missing_end_of_file_record ≡ r = cc in absurd (omega (arith, ap number_of is))
    go (bad_line m w line d) q = let is : refused w line ≡ refused r n = cc in named_by d is two
    go (at_end m t d a (this_byte b l)) q = let z : ◌≡◌ {A = ℕ} 0 1 = cc in absurd (omega arith)
    go (at_end m t d a (no_byte f)) q = let z : ◌≡◌ {A = ℕ} 0 1 = cc in absurd (omega arith)

pub refused_everywhere : RefusedEverywhere
unfolding steps.ask ask_steps
refused_everywhere text address address' r n = go (last_at address (placements text)) (verdict (decision anywhere nothing_yet (steps_of text)))
  where
    go : (o : Option ℕ) (v : Verdict) → answered o v ≡ refuses r n → answered (last_at address' (placements text)) v ≡ refuses r n
    go none (accepted t) e = let z : ◌≡◌ {A = ℕ} 0 1 = cc in absurd (omega arith)
    go (some b) (accepted t) e = let z : ◌≡◌ {A = ℕ} 0 1 = cc in absurd (omega arith)
    go o (refused w m) e = e

pub nothing_after : NothingAfter
nothing_after text₁ text₂ line v e head h₁ h₂ address = asked_nothing_after_the_LF _ intel text₁ text₂ line v e head h₁ h₂ address

-- ---- the contract

apart : (r r' : CodeAsked) → told_asked r ≡ told_asked r' → r ≡ r'
apart (Ok (Some b)) (Ok (Some b')) e = cc
apart (Ok (Some b)) (Ok None) e = cc
apart (Ok (Some b)) (Err z) e = cc
apart (Ok None) (Ok (Some b)) e = cc
apart (Ok None) (Ok None) e = refl
apart (Ok None) (Err z) e = cc
apart (Err z) (Ok (Some b)) e = cc
apart (Err z) (Ok None) e = cc
apart (Err z) (Err z') e = let q = told_apart (refuse z.why z.line) (refuse z'.why z'.line) cc in cc

pub ask_unique : AskUnique
ask_unique text address r r' x y = apart r r' (x.answer ∙ sym y.answer)
