-- One byte asked, and a load: what a load owes a place is what is answered.
-- Assumes nothing.
use mathlib.Core.Path.{◌≡◌, refl, sym, ◌∙◌}
use mathlib.Core.Logic.{◌⊎◌}
use mathlib.Core.Bool.{Bool, true, false}
use mathlib.Core.Option.{none, some}
use lib.ListN.{length}
use Rattle.std.specs.Prelude.{if◌then◌else◌}
use Rattle.record.specs.Refusals.{bad_window, bad_table}
use Rattle.steps.specs.Steps.{verdict}
use Rattle.steps.specs.Source.{steps_of}
use Rattle.steps.specs.Sites.{stopping_by}
use Rattle.steps.specs.Ask.{ask, ask_steps, Like, Outside}
use Rattle.steps.proofs.Sites.{accepted_by}
use Rattle.steps.proofs.Ask.{asked_owed, like_or_outside}
use Rattle.window.specs.Window.{within, unfit, one_window}
use Rattle.window.specs.Load.{stopping_by_window}
use Rattle.window.specs.Table.{inside_of, fits, owned}
use Rattle.window.specs.Tables.{load_table}
use Rattle.window.specs.Asks.{AskedInWindow, AskedByTable, LikeInWindow, LikeByTable}
use Rattle.window.proofs.Tests.{no_window}
use Rattle.window.proofs.Loads.{load_answer, what_is_stored}
use Rattle.window.proofs.Table.{breaks}
use Rattle.window.proofs.Tables.{as_plain, plain_answer, table_what_is_stored}

pub asked_in_window : AskedInWindow
unfolding ask stopping_by_window one_window
asked_in_window S src text first page marks t e i h =
    let s = steps_of src text in
    let v = sym (load_answer src text first page marks) ∙ e in
    let (n, d) = accepted_by (if unfit first (length page) (length marks) then some bad_window else none) (within first (length page)) s t v in
    asked_owed (within first (length page)) s n t d _ _ _ _ (what_is_stored S src text first page marks t e i h)

pub asked_by_table : AskedByTable
unfolding ask load_table owned
asked_by_table S src owner rows text pool marks t e i address h shows =
    let s = steps_of src text in
    let v = sym (plain_answer owner rows s pool marks) ∙ sym (as_plain owner rows s pool marks).0 ∙ e in
    let (n, d) = accepted_by (if fits owner (length pool) (length marks) rows then none else some bad_table) (inside_of owner rows) s t v in
    asked_owed (inside_of owner rows) s n t d address _ _ _ (rw shows at (table_what_is_stored S src owner rows text pool marks t e i h))

pub like_in_window : LikeInWindow
unfolding ask stopping_by_window stopping_by one_window
like_in_window S src text first page marks address w =
    rw (load_answer src text first page marks) (go (unfit first (length page) (length marks)) refl)
  where
    go : (b : Bool) → unfit first (length page) (length marks) ≡ b
        → let v = verdict (stopping_by (if b then some bad_window else none) (within first (length page)) (steps_of src text)) in Like v (ask_steps address (steps_of src text)) ⊎ Outside v
    go true e = absurd (no_window first page marks e w)
    go false e = like_or_outside (within first (length page)) (steps_of src text) address

pub like_by_table : LikeByTable
unfolding ask load_table stopping_by owned
like_by_table S src owner rows text pool marks address good =
    rw ((as_plain owner rows (steps_of src text) pool marks).0 ∙ plain_answer owner rows (steps_of src text) pool marks) (go (fits owner (length pool) (length marks) rows) refl)
  where
    go : (b : Bool) → fits owner (length pool) (length marks) rows ≡ b
        → let v = verdict (stopping_by (if b then none else some bad_table) (inside_of owner rows) (steps_of src text)) in Like v (ask_steps address (steps_of src text)) ⊎ Outside v
    go true e = like_or_outside (inside_of owner rows) (steps_of src text) address
    go false e = absurd (good (breaks owner (length pool) (length marks) rows e))
