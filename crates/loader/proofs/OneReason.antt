-- A load has one reason.
-- Assumes nothing.
use Rattle.window.proofs.Reasons.{load_one_reason, table_one_reason}
use Rattle.intel.specs.Placing.{intel}
use Rattle.intel.specs.Lines.{account}
use Rattle.loader.specs.Claims.{OneReason, OneReasonByTable}
use Rattle.intel.proofs.OneReason.{sound}

pub one_reason : OneReason
one_reason = load_one_reason intel account sound

pub one_reason_by_table : OneReasonByTable
one_reason_by_table = table_one_reason intel account sound
