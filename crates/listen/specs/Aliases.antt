-- What a commit returns, by name.
-- Assumes nothing.
use Rattle.std.specs.Prelude.{Result}
use Rattle.listen.specs.declared.CommitError.{CommitError}
use Rattle.listen.specs.declared.Listener.{Listener}

-- where listening stands after it, or why it was not done
abbrev pub Committed : Type 0
Committed = Result Listener CommitError
