-- `srec::address_of` meets its contract: two, three or four bytes, high byte first.
-- Assumes nothing.
use Rattle.std.proofs.Common.{arith}
use Rattle.srec.proofs.Buffer.{two_bytes, three_bytes, four_bytes}
use Rattle.srec.proofs.address_of.Goals as goal

pub returns-in-2 : goal.returns-in-2
returns-in-2 c = two_bytes c.args.w c.args.buf.now (omega arith) c.from_be_bytes.result c.from_be_bytes.ensures c.in-2.is

pub returns-in-3 : goal.returns-in-3
returns-in-3 c = three_bytes c.args.w c.args.buf.now (omega arith) c.from_be_bytes-in-3.result c.from_be_bytes-in-3.ensures c.in-3.is

pub returns-in_default : goal.returns-in_default
returns-in_default c = four_bytes c.args.w c.args.buf.now (omega arith) c.from_be_bytes-in_default.result c.from_be_bytes-in_default.ensures (omega arith)
