-- No second answer meets a contract: it says by equations what each number is. And a start is what its numbers say.
-- Assumes nothing.
use Prim.Native.Nat.{ℕ}
use mathlib.Core.Path.{◌≡◌, refl, sym, ◌∙◌}
use mathlib.Core.Option.{none, some}
use native.Mathlib.Omega.{arith}
use Rattle.steps.specs.Steps.{cs_with_ip, linear_address}
use Rattle.codes.specs.declared.Coded.{Coded}
use Rattle.codes.specs.declared.Spot.{Spot}
use Rattle.codes.specs.Codes.{Message, CodedAs}
use Rattle.codes.specs.Claims.{CodeAnswerUnique, CodeSanswerUnique, CodeReplyUnique, CodeChunkReplyUnique, CodeAttemptUnique, CodeSattemptUnique, CodeLoadingUnique, CodePagedUnique, CodeSalvagedUnique, CodeAskedUnique, AskedLineUnique, LineAtUnique, StartKindUnique, CodeTableUnique, StartReturns, StateFromUnique, FlagsFromUnique, ChunksFromUnique, ChunkFlagsFromUnique, SpotOfUnique, PlaceFromUnique, ColorNumberUnique, CountNumberUnique, LightFromUnique, CodeMadeUnique, ListenerFromUnique, StandOfUnique, CodeSaidUnique, SaidLineUnique, SaidStartUnique, CodeCommittedUnique, AnswerFromUnique}

same : {n n' i i' j j' k k' : ℕ} → n ≡ n' → i ≡ i' → j ≡ j' → k ≡ k'
    → ◌≡◌ {A = Coded} (record { code = n; a = i; b = j; c = k }) (record { code = n'; a = i'; b = j'; c = k' })
same e f g h = rw (e, f, g, h)

one_coding : {m : Message} {r r' : Coded} → CodedAs m r → CodedAs m r' → r ≡ r'
one_coding x y = same (x.code_is ∙ sym y.code_is) (x.a_is ∙ sym y.a_is) (x.b_is ∙ sym y.b_is) (x.c_is ∙ sym y.c_is)

pub code_answer_unique : CodeAnswerUnique
code_answer_unique answer r r' x y = one_coding x y

pub code_sanswer_unique : CodeSanswerUnique
code_sanswer_unique answer r r' x y = one_coding x y

pub code_reply_unique : CodeReplyUnique
code_reply_unique reply r r' x y = one_coding x y

pub code_chunk_reply_unique : CodeChunkReplyUnique
code_chunk_reply_unique reply r r' x y = one_coding x y

pub code_attempt_unique : CodeAttemptUnique
code_attempt_unique attempt r r' x y = one_coding x y

pub code_sattempt_unique : CodeSattemptUnique
code_sattempt_unique attempt r r' x y = one_coding x y

pub code_loading_unique : CodeLoadingUnique
code_loading_unique answer r r' x y = one_coding x y

pub code_paged_unique : CodePagedUnique
code_paged_unique answer r r' x y = one_coding x y

pub code_salvaged_unique : CodeSalvagedUnique
code_salvaged_unique answer r r' x y = one_coding x y

pub code_asked_unique : CodeAskedUnique
code_asked_unique answer r r' x y = one_coding x y

pub asked_line_unique : AskedLineUnique
asked_line_unique answer r r' x y = x.answer ∙ sym y.answer

pub line_at_unique : LineAtUnique
line_at_unique answer r r' x y = x.answer ∙ sym y.answer

pub start_kind_unique : StartKindUnique
start_kind_unique answer r r' x y = x.answer ∙ sym y.answer

pub code_table_unique : CodeTableUnique
code_table_unique bad r r' x y = x.answer ∙ sym y.answer

pub color_number_unique : ColorNumberUnique
color_number_unique c r r' x y = x.answer ∙ sym y.answer

pub count_number_unique : CountNumberUnique
count_number_unique k r r' x y = x.answer ∙ sym y.answer

pub light_from_unique : LightFromUnique
light_from_unique first length high low known r r' x y = x.answer ∙ sym y.answer

pub code_made_unique : CodeMadeUnique
code_made_unique m r r' x y = x.answer ∙ sym y.answer

pub state_from_unique : StateFromUnique
state_from_unique position line flags r r' x y = x.answer ∙ sym y.answer

pub flags_from_unique : FlagsFromUnique
flags_from_unique s r r' x y = x.answer ∙ sym y.answer

pub chunks_from_unique : ChunksFromUnique
chunks_from_unique position line empties used skipped flags r r' x y = x.answer ∙ sym y.answer

pub chunk_flags_from_unique : ChunkFlagsFromUnique
chunk_flags_from_unique s r r' x y = x.answer ∙ sym y.answer

pub spot_of_unique : SpotOfUnique
spot_of_unique p r r' x y = same (x.lies_is ∙ sym y.lies_is) (x.from_is ∙ sym y.from_is) (x.len_is ∙ sym y.len_is)
  where
    same : {l l' f f' n n' : ℕ} → l ≡ l' → f ≡ f' → n ≡ n' → ◌≡◌ {A = Spot} (record { lies = l; from = f; len = n }) (record { lies = l'; from = f'; len = n' })
    same e f g = rw (e, f, g)

pub place_from_unique : PlaceFromUnique
place_from_unique lies from len r r' x y = x.answer ∙ sym y.answer

pub listener_from_unique : ListenerFromUnique
listener_from_unique flags skipped base begin lines used records r r' x y = x.answer ∙ sym y.answer

pub stand_of_unique : StandOfUnique
stand_of_unique l r r' x y = x.answer ∙ sym y.answer

pub code_said_unique : CodeSaidUnique
code_said_unique said r r' x y = same (x.code_is ∙ sym y.code_is) (x.a_is ∙ sym y.a_is) (x.b_is ∙ sym y.b_is) (x.c_is ∙ sym y.c_is)

pub said_line_unique : SaidLineUnique
said_line_unique said r r' x y = x.answer ∙ sym y.answer

pub said_start_unique : SaidStartUnique
said_start_unique said r r' x y = x.answer ∙ sym y.answer

pub code_committed_unique : CodeCommittedUnique
code_committed_unique c r r' x y = x.answer ∙ sym y.answer

pub answer_from_unique : AnswerFromUnique
answer_from_unique code r r' x y = x.answer ∙ sym y.answer

pub start_returns : StartReturns
start_returns none none k v = refl
start_returns none (some (cs_with_ip cs ip)) k v = absurd (omega arith)
start_returns none (some (linear_address a)) k v = absurd (omega arith)
start_returns (some (cs_with_ip cs ip)) none k v = absurd (omega arith)
start_returns (some (cs_with_ip cs ip)) (some (cs_with_ip cs' ip')) k v = let c : cs ≡ cs' = cc in let i : ip ≡ ip' = cc in rw (c, i)
start_returns (some (cs_with_ip cs ip)) (some (linear_address a)) k v = absurd (omega arith)
start_returns (some (linear_address a)) none k v = absurd (omega arith)
start_returns (some (linear_address a)) (some (cs_with_ip cs ip)) k v = absurd (omega arith)
start_returns (some (linear_address a)) (some (linear_address a')) k v = let e : a ≡ a' = cc in rw e
