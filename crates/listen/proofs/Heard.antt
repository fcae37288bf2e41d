-- What the listener's calls say is what listening says of the lines.
-- Assumes nothing.
use Prim.Native.Nat.{ℕ, suc, ◌+◌, ◌^◌, ◌<◌}
use mathlib.Core.Path.{◌≡◌, refl, sym, ap, subst, ◌∙◌}
use mathlib.Core.Bool.{Bool, true, false}
use mathlib.Core.Option.{some}
use mathlib.Core.List.{List, [], ◌∷◌, ◌++◌, append-nil}
use native.Mathlib.Omega.{arith}
use lib.Dec.{eqb}
use lib.ListN.{length, drop, replicate, length-append}
use borrow.Author.Tests.{eqb-true}
use Rattle.digits.proofs.Tests.{if_true, if_false}
use Rattle.reader.specs.Lines.{LF, CR, at_LF, ends_line, first_line, lines, through}
use Rattle.chunks.specs.Rows.{joined}
use Rattle.steps.specs.Aliases.{Loading}
use Rattle.steps.specs.Steps.{nothing_yet, Verdict, by, decision, verdict, stated as stated-in}
use Rattle.steps.specs.Source.{Source, steps_of}
use Rattle.steps.specs.Told.{told_loading}
use Rattle.window.specs.Window.{unfit, within}
use Rattle.window.proofs.Loads.{load_answer}
use Rattle.intake.specs.declared.Kind.{Kind}
use Rattle.intake.specs.declared.Kind.TheVariants.{Hex, SRecords}
use Rattle.intake.specs.declared.Reply.{Reply}
use Rattle.intake.specs.declared.Reply.TheVariants as reply
use Rattle.intake.specs.Past.{past}
use Rattle.intake.specs.Intake.{Feeds, new_tail}
use Rattle.intake.specs.declared.Intake.{Intake}
use Rattle.intake.specs.Ways.{way_of}
use Rattle.intake.specs.Rows.{Row, cr_before, text_of, AsLoad}
use Rattle.intake.proofs.Following.{stops_fit}
use Rattle.intake.proofs.Rows.{row_decides, row_waits}
use Rattle.listen.specs.declared.Blank.{Blank}
use Rattle.listen.specs.declared.Listener.{Listener}
use Rattle.listen.specs.declared.Listener.TheVariants.{Front, Within, Ready}
use Rattle.listen.specs.declared.Said.TheVariants.{Decided, Passed}
use Rattle.listen.specs.declared.Step.{Step}
use Rattle.listen.specs.Listen.{front, skipping, said, reaching, Listened, first as saying-first, listen, pause, stretch}
use Rattle.listen.specs.Listener.{is_blank, blanks, begun, step_by, decided_by, too_small, FromFront, HearsSo, Hears, PausesSo}
use Rattle.listen.specs.Claims.{Begins}
use Rattle.listen.specs.Calls.{dump_in, DumpIsHeard, EndIsHeard, TailIsHeard}
use Rattle.listen.specs.Texts.{WaitsForMore}
use Rattle.listen.proofs.Blanks.{after_so_many, blanks_on, blanks_begun, blanks_begin}
use Rattle.listen.proofs.Texts.{drops_empty_lines, hears_a_dump, hears_a_tail, pauses_in_a_dump}
use Rattle.listen.proofs.Calls.{BlankSo, Come, come, fit_there, open_decided, dump_decides, dump_ends, Passing, passing, tail_fit}
use Rattle.std.specs.Prelude.{Ok}
use Rattle.std.specs.Prelude.{Err}

-- ---- the dump in a text

module _ (c : ℕ) (bytes : List ℕ) (cr : Bool) where
  dump_after : is_blank c cr ≡ true → dump_in cr (c ∷ bytes) ≡ dump_in (eqb c CR) bytes
  unfolding blanks
  dump_after e = ap (λ (b : Blank). cr_before b.cr ++ drop b.at (c ∷ bytes)) (if_true _ _ _ e)

  dump_here : is_blank c cr ≡ false → dump_in cr (c ∷ bytes) ≡ cr_before cr ++ (c ∷ bytes)
  unfolding blanks
  dump_here e = ap (λ (b : Blank). cr_before b.cr ++ drop b.at (c ∷ bytes)) (if_false _ _ _ e)

module _ {S : Type 0} (src : Source S) (inside : ℕ → Bool) where
  abbrev SameHeard : (text text' : List ℕ) → Type 0
  SameHeard text text' = listen src inside front (lines text) ≡ listen src inside front (lines text')

  -- an empty line ends
  line_ends : (cr : Bool) (bytes : List ℕ) → SameHeard (cr_before cr ++ (LF ∷ bytes)) bytes
  line_ends true bytes = (drops_empty_lines S src inside bytes).1
  line_ends false bytes = (drops_empty_lines S src inside bytes).0

  heard_dropped : (cr : Bool) (bytes : List ℕ) → SameHeard (cr_before cr ++ bytes) (dump_in cr bytes)
  unfolding blanks
  heard_dropped cr [] = refl
  heard_dropped cr (c ∷ bytes) = go (eqb c LF) refl (eqb c CR) refl cr (λ x. heard_dropped x bytes)
    where
      go : (lf : Bool) → eqb c LF ≡ lf → (r : Bool) → eqb c CR ≡ r → (cr : Bool) → ((x : Bool) → SameHeard (cr_before x ++ bytes) (dump_in x bytes)) → SameHeard (cr_before cr ++ (c ∷ bytes)) (dump_in cr (c ∷ bytes))
      go true e r f cr ih =
          let is : c ≡ LF = eqb-true c LF e in
          let no-cr : eqb c CR ≡ false = ap (λ (x : ℕ). eqb x CR) is in
          ap (λ (x : ℕ). listen src inside front (lines (cr_before cr ++ (x ∷ bytes)))) is ∙ line_ends cr bytes ∙ ih false
          ∙ ap (λ (x : Bool). listen src inside front (lines (dump_in x bytes))) (sym no-cr) ∙ ap (λ (y : List ℕ). listen src inside front (lines y)) (sym (dump_after c bytes cr (rw e)))
      go false e true f false ih =
          let is : c ≡ CR = eqb-true c CR f in
          ap (λ (x : ℕ). listen src inside front (lines (x ∷ bytes))) is ∙ ih true
          ∙ ap (λ (x : Bool). listen src inside front (lines (dump_in x bytes))) (sym f) ∙ ap (λ (y : List ℕ). listen src inside front (lines y)) (sym (dump_after c bytes false (rw (e, f))))
      go false e true f true ih = ap (λ (y : List ℕ). listen src inside front (lines y)) (sym (dump_here c bytes true (rw (e, f))))
      go false e false f cr ih = ap (λ (y : List ℕ). listen src inside front (lines y)) (sym (dump_here c bytes cr (rw (e, f))))

-- its first line has a byte
module _ (c : ℕ) (bytes : List ℕ) where
  here_true : eqb c LF ≡ false → Begins (lines (CR ∷ c ∷ bytes))
  unfolding lines first_line ends_line at_LF
  here_true e = rw e tt

  here_false : eqb c LF ≡ false → eqb c CR ≡ false → Begins (lines (c ∷ bytes))
  unfolding lines first_line ends_line at_LF
  here_false e f = rw (e, f) tt

begins_so : (cr : Bool) (bytes : List ℕ) → (blanks cr bytes).at < length bytes → Begins (lines (dump_in cr bytes))
unfolding blanks
begins_so cr [] h = absurd (omega arith)
begins_so cr (c ∷ bytes) h = go (eqb c LF) refl (eqb c CR) refl cr (λ x. begins_so x bytes) h
  where
    on : (cr : Bool) → is_blank c cr ≡ true → ((x : Bool) → (blanks x bytes).at < length bytes → Begins (lines (dump_in x bytes))) → (blanks cr (c ∷ bytes)).at < length (c ∷ bytes) → Begins (lines (dump_in cr (c ∷ bytes)))
    on cr e ih k =
        let n : (blanks cr (c ∷ bytes)).at ≡ suc (blanks (eqb c CR) bytes).at = ap (λ (b : Blank). b.at) (if_true _ _ _ e) in
        subst (λ (y : List ℕ). Begins (lines y)) (sym (dump_after c bytes cr e)) (ih (eqb c CR) (omega (arith, n, k)))

    go : (lf : Bool) → eqb c LF ≡ lf → (r : Bool) → eqb c CR ≡ r → (cr : Bool) → ((x : Bool) → (blanks x bytes).at < length bytes → Begins (lines (dump_in x bytes)))
        → (blanks cr (c ∷ bytes)).at < length (c ∷ bytes) → Begins (lines (dump_in cr (c ∷ bytes)))
    go true e r f cr ih k = on cr (rw e) ih k
    go false e true f false ih k = on false (rw (e, f)) ih k
    go false e true f true ih k = subst (λ (y : List ℕ). Begins (lines y)) (sym (dump_here c bytes true (rw (e, f)))) (here_true c bytes e)
    go false e false f true ih k = subst (λ (y : List ℕ). Begins (lines y)) (sym (dump_here c bytes true (rw (e, f)))) (here_true c bytes e)
    go false e false f false ih k = subst (λ (y : List ℕ). Begins (lines y)) (sym (dump_here c bytes false (rw (e, f)))) (here_false c bytes e f)

-- ---- a dump that is decided has begun

module _ (kind : Kind) (cr : Bool) (first : ℕ) (carry₀ stage₀ stated₀ : List ℕ) (bytes chunk more : List ℕ) (r : Step) (carry' stage' stated' : List ℕ) (answer : Loading) (told : r.said ≡ Decided answer) where
  abbrev HasBegun : Type 0
  HasBegun = (blanks cr (bytes ++ (chunk ++ more))).at < length (bytes ++ (chunk ++ more))

  begun_front : (kind' : Kind) (waits : Bool) (carry stage stated : List ℕ) → BlankSo kind cr first carry₀ stage₀ stated₀ bytes kind' waits carry stage stated
      → FromFront kind' waits chunk carry first stage stated r carry' stage' stated' → HasBegun
  begun_front kind' waits carry stage stated x f = go (eqb (blanks waits chunk).at (length chunk)) refl
    where
      go : (t : Bool) → eqb (blanks waits chunk).at (length chunk) ≡ t → HasBegun
      go true e = let said-is = ap (λ (z : Step). z.said) (f.empty e).0 in let z : ◌≡◌ {A = ℕ} 0 1 = cc in absurd (omega arith)
      go false e =
          let h = blanks_begin waits chunk e in
          let n : (blanks cr (bytes ++ (chunk ++ more))).at ≡ length bytes + (blanks waits chunk).at =
          ap (λ (b : Blank). b.at) (blanks_on cr bytes (chunk ++ more) waits x.all_blank ∙ ap (after_so_many (length bytes)) (blanks_begun waits chunk more h)) in
          omega (arith, h, n, length-append bytes (chunk ++ more), length-append chunk more)

  begun_there : (l : Listener) (carry stage stated : List ℕ) → Come kind cr first carry₀ stage₀ stated₀ bytes l carry stage stated → HearsSo l chunk carry first stage stated r carry' stage' stated' → HasBegun
  begun_there (Front kind' waits) carry stage stated x f = begun_front kind' waits carry stage stated x f
  begun_there (Ready kind') carry stage stated x f = begun_front kind' false carry stage stated x f
  begun_there (Within s) carry stage stated x f =
      let h = x.inside in
      let k : (blanks cr bytes).at < length bytes = rw x.begins h in
      let n : (blanks cr (bytes ++ (chunk ++ more))).at ≡ (blanks cr bytes).at = ap (λ (b : Blank). b.at) (blanks_begun cr bytes (chunk ++ more) k) in
      omega (arith, k, n, length-append bytes (chunk ++ more))

pub dump_is_heard : DumpIsHeard
dump_is_heard kind cr first l₀ carry₀ stage₀ stated₀ b fit bytes l carry stage stated row chunk r carry' stage' stated' answer h told more short =
    let text = dump_in cr (bytes ++ (chunk ++ more)) in
    let (_, u, _, _) = dump_decides kind cr first l₀ carry₀ stage₀ stated₀ b fit bytes l carry stage stated row chunk r carry' stage' stated' answer h told more stage₀ stated₀ short refl refl in
    let x = come kind cr first carry₀ stage₀ stated₀ fit b row in
    let heard = open_decided kind cr first carry₀ stage₀ stated₀ fit bytes l carry stage stated x chunk r carry' stage' stated' answer h told in
    let has = begun_there kind cr first carry₀ stage₀ stated₀ bytes chunk more r carry' stage' stated' answer told l carry stage stated x heard in
    heard_dropped (way_of kind false).source (within first (length stage₀)) cr (bytes ++ (chunk ++ more))
    ∙ hears_a_dump (way_of kind false).State (way_of kind false).source (within first (length stage₀)) text (drop r.used chunk ++ more) u.line (told_loading answer)
    (begins_so cr (bytes ++ (chunk ++ more)) has)
    (sym (stops_fit kind false cr first carry₀ stage₀ stated₀ text stage₀ stated₀ refl refl fit) ∙ u.stops) (u.head, u.is_through, u.whole)

-- ---- a dump that ends

module _ (kind : Kind) (cr : Bool) (first : ℕ) (carry₀ stage₀ stated₀ : List ℕ) (fit : unfit first (length stage₀) (length stated₀) ≡ false) where
  abbrev src : Source (way_of kind false).State
  src = (way_of kind false).source

  abbrev inside₀ : ℕ → Bool
  inside₀ = within first (length stage₀)

  -- no line that has its LF has decided
  still_waits : (bytes : List ℕ) (s : Intake) (carry stage stated : List ℕ) → Come kind cr first carry₀ stage₀ stated₀ bytes (Within s) carry stage stated → suc (length (dump_in cr bytes)) < 2 ^ 64
      → WaitsForMore src inside₀ (dump_in cr bytes)
  still_waits bytes s carry stage stated x short n v d =
      let text : dump_in cr bytes ≡ text_of x.waits x.chunks =
      ap (λ (y : Blank). cr_before y.cr ++ drop y.at bytes) x.begins ∙ ap (λ (y : List ℕ). cr_before x.waits ++ y) (sym x.rest) in
      ap (through n) text
      ∙ row_waits kind false x.waits first carry₀ stage₀ (replicate (length stated₀) 0) (begun kind x.waits) refl x.chunks s carry stage stated x.row []
      (subst (λ (y : List ℕ). suc (length y) < 2 ^ 64) text short) n v
      (ap (λ (y : List ℕ). decision inside₀ nothing_yet (steps_of src y)) (append-nil (text_of x.waits x.chunks) ∙ sym text) ∙ d)

  ends_heard : (bytes : List ℕ) (l : Listener) (carry stage stated : List ℕ) → Come kind cr first carry₀ stage₀ stated₀ bytes l carry stage stated
      → (r : Step) (carry' stage' stated' : List ℕ) (answer : Loading) → PausesSo l carry first stage stated r carry' stage' stated' → r.said ≡ Decided answer → suc (length (dump_in cr bytes)) < 2 ^ 64
      → verdict (decision inside₀ nothing_yet (steps_of src (dump_in cr bytes))) ≡ told_loading answer
      → stretch src inside₀ front (lines (cr_before cr ++ bytes)) ≡ record { says = said (told_loading answer) (reaching (told_loading answer) (stated-in (steps_of src (dump_in cr bytes)))) ∷ []; mode = front }
  ends_heard bytes (Front k c) carry stage stated x r carry' stage' stated' answer p told short v = let h = sym (ap (λ (z : Step). z.said) p.answer) ∙ told in let z : ◌≡◌ {A = ℕ} 0 1 = cc in absurd (omega arith)
  ends_heard bytes (Ready k) carry stage stated x r carry' stage' stated' answer p told short v = let h = sym (ap (λ (z : Step). z.said) p.answer) ∙ told in let z : ◌≡◌ {A = ℕ} 0 1 = cc in absurd (omega arith)
  ends_heard bytes (Within s) carry stage stated x r carry' stage' stated' answer p told short v =
      let h = x.inside in
      let k : (blanks cr bytes).at < length bytes = rw x.begins h in
      ap (λ (y : Listened (way_of kind false).State). saying-first y.says (pause y.mode)) (heard_dropped src inside₀ cr bytes)
      ∙ pauses_in_a_dump (way_of kind false).State src inside₀ (dump_in cr bytes) (begins_so cr bytes k) (still_waits bytes s carry stage stated x short)
      ∙ ap (λ (y : Verdict). record { says = said y (reaching y (stated-in (steps_of src (dump_in cr bytes)))) ∷ []; mode = front }) v

pub end_is_heard : EndIsHeard
end_is_heard kind cr first l₀ carry₀ stage₀ stated₀ b fit bytes l carry stage stated row r carry' stage' stated' answer h told short =
    ends_heard kind cr first carry₀ stage₀ stated₀ fit bytes l carry stage stated x r carry' stage' stated' answer (go (too_small l (length carry)) refl) told short
    (sym (ap verdict (stops_fit kind false cr first carry₀ stage₀ stated₀ (dump_in cr bytes) stage₀ stated₀ refl refl fit)) ∙ sym (load_answer (way_of kind false).source (dump_in cr bytes) first stage₀ stated₀) ∙ load.answer)
  where
    x : Come kind cr first carry₀ stage₀ stated₀ bytes l carry stage stated
    x = come kind cr first carry₀ stage₀ stated₀ fit b row

    load : AsLoad (way_of kind false).source (dump_in cr bytes) first stage₀ stated₀ stage₀ (replicate (length stated₀) 0) answer stage' stated'
    load = (dump_ends kind cr first l₀ carry₀ stage₀ stated₀ b fit bytes l carry stage stated row r carry' stage' stated' answer h told stage₀ stated₀ short refl refl).0

    go : (t : Bool) → too_small l (length carry) ≡ t → PausesSo l carry first stage stated r carry' stage' stated'
    go true e = let q = sym (ap (λ (z : Step). z.said) (h.small e).answer) ∙ told in let z : ◌≡◌ {A = ℕ} 0 1 = cc in absurd (omega arith)
    go false e = h.else_so e (fit_there kind cr first carry₀ stage₀ stated₀ fit bytes l carry stage stated x)

-- ---- what is passed over

past_so : (kind : Kind) (inside : ℕ → Bool) (text : List ℕ) (n : ℕ) (v : Verdict) → decision inside nothing_yet (steps_of (way_of kind true).source text) ≡ some (by n v)
    → decision inside nothing_yet (steps_of (past (way_of kind false).source) text) ≡ some (by n v)
past_so Hex inside text n v e = e
past_so SRecords inside text n v e = e

module _ (kind : Kind) (first : ℕ) (carry₀ stage₀ stated₀ : List ℕ) (fit : unfit first (length stage₀) (length stated₀) ≡ false) (bytes : List ℕ) (chunk : List ℕ) (r : Step) (carry' stage' stated' : List ℕ)
    (told : r.said ≡ Passed) (more : List ℕ) (short : suc (length (bytes ++ (chunk ++ more))) < 2 ^ 64) where
  abbrev HeardOn : Type 0
  HeardOn =
      listen (way_of kind false).source (within first (length stage₀)) skipping (lines (bytes ++ (chunk ++ more)))
      ≡ listen (way_of kind false).source (within first (length stage₀)) front (lines (drop r.used chunk ++ more))

  module _ (s : Intake) (carry stage stated : List ℕ) (chunks : List (List ℕ)) (row : Row first (new_tail kind) carry₀ stage₀ stated₀ chunks s carry stage stated) (whole : joined chunks ≡ bytes) where
    by_reply : (a : Reply) → Feeds s chunk carry first stage stated a carry' stage' stated' → r ≡ step_by s 0 (length chunk) a → HeardOn
    by_reply (reply.WantsMore s') f e = let is = ap (λ (z : Step). z.said) e in let z : ◌≡◌ {A = ℕ} 0 1 = cc in absurd (omega arith)
    by_reply reply.CarryTooSmall f e = let is = ap (λ (z : Step). z.said) e in let z : ◌≡◌ {A = ℕ} 0 1 = cc in absurd (omega arith)
    by_reply (reply.Decided l used) f e =
        let text : bytes ++ (chunk ++ more) ≡ joined chunks ++ (chunk ++ more) = ap (λ (y : List ℕ). y ++ (chunk ++ more)) (sym whole) in
        let few = subst (λ (y : List ℕ). suc (length y) < 2 ^ 64) text short in
        let (_, u, _) = row_decides kind true false first carry₀ stage₀ stated₀ (new_tail kind) refl chunks s carry stage stated row chunk l used carry' stage' stated' f more stage₀ stated₀ few refl refl in
        let way = u (λ _. fit) in
        let at : used ≡ r.used = used_is l used e in
        let stops = past_so kind (within first (length stage₀)) (joined chunks ++ (chunk ++ more)) way.line (told_loading l)
        (sym (stops_fit kind true false first carry₀ stage₀ stated₀ (joined chunks ++ (chunk ++ more)) stage₀ stated₀ refl refl fit) ∙ way.stops) in
        ap (λ (y : List ℕ). listen (way_of kind false).source (within first (length stage₀)) skipping (lines y)) text
        ∙ hears_a_tail (way_of kind false).State (way_of kind false).source (within first (length stage₀)) (joined chunks ++ (chunk ++ more)) (drop used chunk ++ more) way.line (told_loading l) stops
        (way.head, way.is_through, way.whole)
        ∙ ap (λ (m : ℕ). listen (way_of kind false).source (within first (length stage₀)) front (lines (drop m chunk ++ more))) at
      where
        used_by : (t : Bool) (l : Loading) (n : ℕ) → (decided_by t s.kind l n).used ≡ n
        used_by true (Ok t) n = refl
        used_by true (Err z) n = refl
        used_by false l n = refl

        used_is : (l : Loading) (used : ℕ) → r ≡ step_by s 0 (length chunk) (reply.Decided l used) → used ≡ r.used
        used_is l used e = let n = ap (λ (z : Step). z.used) e ∙ used_by s.tail l (0 + used) in omega (arith, n)

  heard_on : (l : Listener) (carry stage stated : List ℕ) → Passing kind first carry₀ stage₀ stated₀ fit bytes l carry stage stated → Hears l chunk carry first stage stated r carry' stage' stated' → HeardOn
  heard_on (Front k c) carry stage stated x h = absurd x
  heard_on (Ready k) carry stage stated x h = absurd x
  heard_on (Within s) carry stage stated (chunks, row, whole) h = go (too_small (Within s) (length carry)) refl
    where
      go : (t : Bool) → too_small (Within s) (length carry) ≡ t → HeardOn
      go true t = let is = ap (λ (z : Step). z.said) (h.small t).answer in let z : ◌≡◌ {A = ℕ} 0 1 = cc in absurd (omega arith)
      go false t =
          let g = h.else_so t (tail_fit kind first carry₀ stage₀ stated₀ fit s carry stage stated chunks row) in
          by_reply s carry stage stated chunks row whole g.reply g.feeds g.answer

pub tail_is_heard : TailIsHeard
tail_is_heard kind first carry₀ stage₀ stated₀ fit bytes l carry stage stated row chunk r carry' stage' stated' h told more short =
    heard_on kind first carry₀ stage₀ stated₀ fit bytes chunk r carry' stage' stated' told more short l carry stage stated (passing kind first carry₀ stage₀ stated₀ fit row) h
