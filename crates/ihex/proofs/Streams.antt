-- The claims of `specs/Streams.antt`: calls on a stream are the listener's, in numbers.
-- Assumes nothing.
use Prim.Native.Nat.{ℕ, ◌%◌}
use mathlib.Core.Path.{◌≡◌, refl, sym, ap, subst, ◌∙◌}
use mathlib.Core.Logic.{inl, inr}
use mathlib.Core.Bool.{Bool, true, false}
use mathlib.Core.List.{List, [], ◌∷◌, ◌++◌, map, map-append}
use native.Mathlib.Omega.{arith}
use lib.Dec.{eqb}
use lib.ListN.{drop}
use Rattle.std.specs.Prelude.{if◌then◌else◌}
use Rattle.steps.specs.Aliases.{Loading}
use Rattle.steps.specs.Told.{told_loading}
use Rattle.intake.specs.declared.Kind.{Kind}
use Rattle.intake.specs.declared.Kind.TheVariants.{Hex, SRecords}
use Rattle.intake.specs.declared.Intake.{Intake}
use Rattle.listen.specs.declared.Listener.{Listener}
use Rattle.listen.specs.declared.Listener.TheVariants.{Front, Within, Ready}
use Rattle.listen.specs.Aliases.{Committed}
use Rattle.listen.specs.declared.CommitError.TheVariants as committed
use Rattle.listen.specs.Listener.{begins, Commits}
use Rattle.listen.specs.Calls as calls
use Rattle.listen.specs.Calls.{Calls}
use Rattle.listen.proofs.Streams.{done_so, calls_listen}
use Rattle.codes.specs.declared.Stand.{Stand}
use Rattle.codes.specs.Codes.{OK, LoadNumbers, load_numbers}
use Rattle.codes.specs.States.{bit}
use Rattle.codes.specs.Listeners.{kind_of, kind_flag, intake_of, listener_of, stands_for, commit_code}
use Rattle.ihex.specs.Listening.{IhexFeed, IhexCommit, flags_after}
use Rattle.ihex.specs.Streams.{with_flags, IhexCalls, none_yet, going_on, deciding, committing, first_stand, IhexCallsListen}
use Rattle.ihex.proofs.Listeners.{wants, passes, code_of, which, front_stands}
use Rattle.std.specs.Prelude.{Err, Ok}

-- ---- a commit

-- a commit that returns IHEX_OK is done
was_done : (c : Committed) → commit_code c ≡ OK → (l : Listener) × (c ≡ Ok l)
was_done (Ok l) e = (l, refl)
was_done (Err committed.NotReady) e = absurd (omega arith)
was_done (Err committed.BadWindow) e = absurd (omega arith)

-- the flags alone say that a dump is ready
ready_by_flags : (s : Stand) (k : Kind) → listener_of s.flags 0 0 0 0 0 0 ≡ Ready k → stands_for s ≡ Ready k
ready_by_flags s k e =
    go (kind_of s.flags) (bit s.flags 8) (intake_of s.flags 0 0 0 0 0 0) (intake_of s.flags s.skipped s.base s.begin s.lines s.used s.records) (eqb (s.flags % 4) 0) (eqb (s.flags % 4) 3) e
  where
    go : (at : Kind) (waits : Bool) (i i' : Intake) (a b : Bool) → (if a then Front at waits else if b then Ready at else Within i) ≡ Ready k → (if a then Front at waits else if b then Ready at else Within i') ≡ Ready k
    go at waits i i' true b q = let z : ◌≡◌ {A = ℕ} 0 1 = cc in absurd (omega arith)
    go at waits i i' false true q = q
    go at waits i i' false false q = let z : ◌≡◌ {A = ℕ} 0 1 = cc in absurd (omega arith)

-- with the flags of a front
front_by_flags : (k : Kind) (flags : ℕ) (s : Stand) → flags ≡ kind_flag k → stands_for (with_flags flags s) ≡ Front k false
front_by_flags Hex flags s e = rw e
front_by_flags SRecords flags s e = rw e

-- what a commit with IHEX_OK comes to
commits_so : (s : Stand) (stage stated page marks : List ℕ) (code flags : ℕ) (page' marks' : List ℕ) → IhexCommit s.flags stage stated page marks code flags page' marks' → code ≡ OK
    → (l : Listener) × Commits (stands_for s) stage stated page marks (Ok l) page' marks' × (stands_for (with_flags flags s) ≡ l)
commits_so s stage stated page marks code flags page' marks' c ok =
    let (l, done) = was_done c.committed (sym c.answer ∙ ok) in
    let before = listener_of s.flags 0 0 0 0 0 0 in
    let there : Commits before stage stated page marks (Ok l) page' marks' = subst (λ (y : Committed). Commits before stage stated page marks y page' marks') done c.commits in
    let (k, ready, front) = done_so before stage stated page marks l page' marks' there in
    let left : flags ≡ kind_flag k = c.flags_are ∙ ap (flags_after s.flags) (done ∙ ap Ok front) ∙ ap (λ (y : Stand). y.flags) (front_stands k) in (
      l,
      subst (λ (y : Listener). Commits y stage stated page marks (Ok l) page' marks') (ready ∙ sym (ready_by_flags s k ready)) there,
      front_by_flags k flags s left ∙ sym front,
    )

-- ---- calls on a stream

-- the numbers of a row of answers
abbrev in_numbers : List Loading → List LoadNumbers
in_numbers answers = map load_numbers (map told_loading answers)

one_more : (answers : List Loading) (answer : Loading) (decided : List LoadNumbers) (r : LoadNumbers) → in_numbers answers ≡ decided → r ≡ load_numbers (told_loading answer)
    → in_numbers (answers ++ (answer ∷ [])) ≡ decided ++ (r ∷ [])
one_more answers answer decided r e n =
    ap (map load_numbers) (map-append told_loading answers (answer ∷ [])) ∙ map-append load_numbers (map told_loading answers) (told_loading answer ∷ [])
    ∙ ap (λ (y : List LoadNumbers). y ++ (load_numbers (told_loading answer) ∷ [])) e ∙ ap (λ (y : LoadNumbers). decided ++ (y ∷ [])) (sym n)

module _ (first : ℕ) (s₀ : Stand) (carry₀ stage₀ stated₀ stream : List ℕ) where
  -- the listener's calls that these are
  abbrev AreCalls : (decided : List LoadNumbers) (left : List ℕ) (s : Stand) (carry stage stated : List ℕ) → Type 0
  AreCalls decided left s carry stage stated =
      (answers : List Loading) × (in_numbers answers ≡ decided) × Calls first (stands_for s₀) carry₀ stage₀ stated₀ stream answers left (stands_for s) carry stage stated

  -- a call of the listener's in numbers
  told_so : (answers : List Loading) (left : List ℕ) (chunk more : List ℕ) (s : Stand) (carry stage stated : List ℕ) (taken : ℕ) (s' : Stand) (r : LoadNumbers) (carry' stage' stated' : List ℕ)
      → (f : IhexFeed (stands_for s) chunk carry first stage stated taken s' r carry' stage' stated')
      → Calls first (stands_for s₀) carry₀ stage₀ stated₀ stream answers (drop f.step.used chunk ++ more) f.step.listener carry' stage' stated'
      → Calls first (stands_for s₀) carry₀ stage₀ stated₀ stream answers (drop taken chunk ++ more) (stands_for s') carry' stage' stated'
  told_so answers left chunk more s carry stage stated taken s' r carry' stage' stated' f c =
      subst (λ (n : ℕ). Calls first (stands_for s₀) carry₀ stage₀ stated₀ stream answers (drop n chunk ++ more) (stands_for s') carry' stage' stated') (sym f.taken_is)
      (subst (λ (y : Listener). Calls first (stands_for s₀) carry₀ stage₀ stated₀ stream answers (drop f.step.used chunk ++ more) y carry' stage' stated') (sym f.tells.returns) c)

  are_calls : {decided : List LoadNumbers} {left : List ℕ} {s : Stand} {carry stage stated : List ℕ} → IhexCalls first s₀ carry₀ stage₀ stated₀ stream decided left s carry stage stated
      → AreCalls decided left s carry stage stated
  are_calls none_yet = ([], refl, calls.no_call)
  are_calls (going_on {decided} {left} {s} {carry} {stage} {stated} chunk more taken s' r carry' stage' stated' row is f (inl e)) =
      let (answers, same, c) = are_calls row in
      let w = wants f.step.said (sym (code_of f.tells) ∙ e) in
      (answers, same, told_so answers left chunk more s carry stage stated taken s' r carry' stage' stated' f (calls.wanting chunk more f.step carry' stage' stated' c is f.hears w))
  are_calls (going_on {decided} {left} {s} {carry} {stage} {stated} chunk more taken s' r carry' stage' stated' row is f (inr e)) =
      let (answers, same, c) = are_calls row in
      let w = passes f.step.said (sym (code_of f.tells) ∙ e) in
      (answers, same, told_so answers left chunk more s carry stage stated taken s' r carry' stage' stated' f (calls.passing chunk more f.step carry' stage' stated' c is f.hears w))
  are_calls (deciding {decided} {left} {s} {carry} {stage} {stated} chunk more taken s' r carry' stage' stated' row is f d) =
      let (answers, same, c) = are_calls row in
      let (answer, said, numbers) = which f.tells d in (
        answers ++ (answer ∷ []),
        one_more answers answer decided r same numbers,
        told_so (answers ++ (answer ∷ [])) left chunk more s carry stage stated taken s' r carry' stage' stated' f (calls.deciding chunk more f.step carry' stage' stated' answer c is f.hears said),
      )
  are_calls (committing {decided} {left} {s} {carry} {stage} {stated} page marks code flags page' marks' row x ok) =
      let (answers, same, c) = are_calls row in
      let (l, done, is) = commits_so s stage stated page marks code flags page' marks' x ok in
      (answers, same, subst (λ (y : Listener). Calls first (stands_for s₀) carry₀ stage₀ stated₀ stream answers left y carry stage stated) (sym is) (calls.committing page marks l page' marks' c done))

-- ---- from where listening begins

first_so : (kind : Kind) (known : Bool) → stands_for (first_stand kind known) ≡ begins kind known
first_so Hex true = refl
first_so Hex false = refl
first_so SRecords true = refl
first_so SRecords false = refl

pub ihex_calls_listen : IhexCallsListen
ihex_calls_listen kind known first carry₀ stage₀ stated₀ stream fit few decided left s carry stage stated row =
    let (answers, same, c) = are_calls first (first_stand kind known) carry₀ stage₀ stated₀ stream row in
    let there = subst (λ (y : Listener). Calls first y carry₀ stage₀ stated₀ stream answers left (stands_for s) carry stage stated) (first_so kind known) c in
    let (says, mode, begun, told, heard) = calls_listen kind known first carry₀ stage₀ stated₀ stream fit few answers left (stands_for s) carry stage stated there in
    (says, mode, begun, ap (map load_numbers) told ∙ same, heard)
