-- Calls of a member with their answers, written from document 01 by hand, and the statement that covers them. Proved in proofs/Vectors.antt, by
-- computing what the definitions give: `member_vectors : MemberVectors` and `answer_cases : (m : Member) (reason : Reason) → AnswerCases m reason`.
use Rattle.std.specs.Prelude.{ℕ, ◌≡◌, List, [], ◌∷◌, map, Ok, Err}
use Rattle.laws.specs.Answer.{Answer, accepted, refused}
use Rattle.laws.specs.Question.{answer_is, answer_with_is}
use Rattle.laws.specs.declared.question.Question.TheVariants.{OwnNumber, State, OwnCode, Crashes}
use Rattle.member.specs.declared.Member.{Member}
use Rattle.sets.specs.Largest.{largest}
use Rattle.member.specs.declared.Rule.{Rule}
use Rattle.member.specs.declared.Rule.TheVariants.{Told, ZerosOnly, Quiet, RoundT, LastRound, NoRule}
use Rattle.member.specs.declared.Reason.{Reason}
use Rattle.member.specs.Answers.{open_answer, say_answer, hear_answer, explain_answer}

-- "The state is n, t, own number, the round to play next, the estimate (0 or 1), and the decided round (0 while undecided).", and the silent set
abbrev pub state : ℕ → ℕ → ℕ → ℕ → ℕ → ℕ → ℕ → Member
state n t id round estimate decided silent = record { n = n; t = t; id = id; round = round; estimate = estimate; decided = decided; silent = silent }

-- an opening with n, t, own number and vote
pub record OpenCall : Type 0 where
  pub n : ℕ
  pub t : ℕ
  pub id : ℕ
  pub vote : ℕ
  pub answer : Answer Member (Unit {0})

abbrev pub opens : ℕ → ℕ → ℕ → ℕ → Member → OpenCall
opens n t id vote m = record { n = n; t = t; id = id; vote = vote; answer = accepted m }

abbrev pub opens_not : ℕ → ℕ → ℕ → ℕ → ℕ → OpenCall
opens_not n t id vote number = record { n = n; t = t; id = id; vote = vote; answer = refused number tt }

abbrev pub openings : List OpenCall
openings =
    -- "Opening: round 1, estimate = vote, undecided.", for the smallest and the largest n, t and own number
    opens 4 3 1 1 (state 4 3 1 1 1 0 0) ∷
    opens 64 63 64 0 (state 64 63 64 1 0 0 0) ∷
    -- "n from 4 to 32? 1", and "n goes to 64": with t = 2 too
    opens_not 3 2 1 1 1 ∷
    opens_not 65 2 1 1 1 ∷
    -- "t from 3 to n − 1? 2": with own number 0 too
    opens_not 4 2 0 1 2 ∷
    opens_not 4 4 0 1 2 ∷
    -- "own number from 1 to n? 10": with vote 2 too
    opens_not 4 3 0 2 10 ∷
    opens_not 4 3 5 2 10 ∷
    -- "vote 0 or 1? 4"
    opens_not 4 3 4 2 4 ∷
    []

-- what a member says
pub record SayCall : Type 0 where
  pub member : Member
  pub answer : Answer ℕ (Unit {0})

abbrev pub speaks : Member → ℕ → SayCall
speaks m code = record { member = m; answer = accepted code }

abbrev pub out_of_range : Member → SayCall
out_of_range m = record { member = m; answer = refused 11 tt }

abbrev pub sayings : List SayCall
sayings =
    -- "1 estimate 0, 2 estimate 1": undecided in the first and the last round
    speaks (state 4 3 4 1 0 0 0) 1 ∷
    speaks (state 4 3 4 4 1 0 0) 2 ∷
    -- "3 decided 0, 4 decided 1": decided in 2, the smallest, with round d + 1, and in 3
    speaks (state 4 3 4 3 0 2 0) 3 ∷
    speaks (state 4 3 4 4 1 3 0) 4 ∷
    -- "0 nothing": "Stopped means: round t + 2, or decided in d with round d + 2."
    speaks (state 4 3 4 4 1 2 0) 0 ∷
    speaks (state 4 3 4 5 1 4 0) 0 ∷
    -- the largest numbers of a state: undecided in the last round of 64, decided in it, and stopped
    speaks (state 64 63 64 64 1 0 0) 2 ∷
    speaks (state 64 63 64 65 1 64 0) 0 ∷
    speaks (state 64 63 64 65 0 63 0) 0 ∷
    -- undecided with a round from 1 to t + 1, so not with 0 or t + 2
    out_of_range (state 4 3 4 0 1 0 0) ∷
    out_of_range (state 4 3 4 5 1 0 0) ∷
    -- decided in d from 2 to t + 1, so not in 1 or t + 2
    out_of_range (state 4 3 4 2 1 1 0) ∷
    out_of_range (state 4 3 4 6 1 5 0) ∷
    -- with a round of d + 1 or d + 2, so not with d or d + 3, at most t + 2
    out_of_range (state 4 3 4 2 1 2 0) ∷
    out_of_range (state 4 3 4 5 1 2 0) ∷
    out_of_range (state 4 3 4 6 1 4 0) ∷
    -- n, t, own number and estimate within their limits
    out_of_range (state 3 2 1 1 1 0 0) ∷
    out_of_range (state 65 3 4 1 1 0 0) ∷
    out_of_range (state 4 2 4 1 1 0 0) ∷
    out_of_range (state 4 4 4 1 1 0 0) ∷
    out_of_range (state 4 3 0 1 1 0 0) ∷
    out_of_range (state 4 3 5 1 1 0 0) ∷
    out_of_range (state 4 3 4 1 2 0 0) ∷
    -- "it names only processes 1 to n and not the own number": all others, of 4 and of 64; but not process 5 of 4, nor the own one, nor process 64 of 63,
    -- nor the own one of 64
    speaks (state 4 3 4 1 1 0 7) 2 ∷
    speaks (state 64 63 64 2 0 0 9223372036854775807) 1 ∷
    speaks (state 64 63 1 4 1 3 18446744073709551614) 4 ∷
    out_of_range (state 4 3 4 1 1 0 16) ∷
    out_of_range (state 4 3 4 1 1 0 8) ∷
    out_of_range (state 4 3 1 3 1 2 1) ∷
    out_of_range (state 63 62 1 1 1 0 9223372036854775808) ∷
    out_of_range (state 64 63 64 1 1 0 9223372036854775808) ∷
    out_of_range (state 64 63 1 1 1 0 18446744073709551615) ∷
    []

-- what a row makes of a member
pub record HearCall : Type 0 where
  pub member : Member
  pub row : List ℕ
  pub answer : Answer Member Member

-- n = 5, t = 4, and own number 2: in this round, with this estimate, this decided round and this silent set
abbrev pub two : ℕ → ℕ → ℕ → ℕ → Member
two round estimate decided silent = state 5 4 2 round estimate decided silent

abbrev pub five : ℕ → ℕ → ℕ → ℕ → ℕ → List ℕ
five a b c d e = a ∷ b ∷ c ∷ d ∷ e ∷ []

abbrev pub moves : Member → List ℕ → Member → HearCall
moves m row next = record { member = m; row = row; answer = accepted next }

-- "a refused hearing returns its number and the state given"
abbrev pub refuses : Member → List ℕ → ℕ → HearCall
refuses m row number = record { member = m; row = row; answer = refused number m }

abbrev pub hearings : List HearCall
hearings =
    -- "r = 1: fewer than n estimates, or any estimate 0, makes its estimate 0."
    moves (two 1 1 0 0) (five 2 2 2 2 2) (two 2 1 0 0) ∷
    moves (two 1 1 0 0) (five 2 2 2 2 0) (two 2 0 0 0) ∷
    moves (two 1 1 0 0) (five 2 2 2 2 1) (two 2 0 0 0) ∷
    -- "r ≥ 2, some code 3 or 4: it takes that value and decides in r."
    moves (two 3 1 0 0) (five 2 2 3 0 0) (two 4 0 3 0) ∷
    moves (two 3 0 0 0) (five 0 1 4 0 0) (two 4 1 3 0) ∷
    -- also where a rule of estimates is met: a quiet round, enough of them in round t, and the last round
    moves (two 3 1 0 0) (five 2 2 2 2 3) (two 4 0 3 0) ∷
    moves (two 4 1 0 0) (five 2 2 3 0 0) (two 5 0 4 0) ∷
    moves (two 5 1 0 0) (five 0 2 3 0 0) (two 6 0 5 0) ∷
    -- "r = 2 and all estimates heard are 0", with two missing, and the same row in r = 3
    moves (two 2 0 0 0) (five 1 1 0 0 1) (two 3 0 2 12) ∷
    moves (two 3 0 0 0) (five 1 1 0 0 1) (two 4 0 0 12) ∷
    -- "any estimate 0 makes its estimate 0", and one zero decides nothing
    moves (two 2 1 0 0) (five 1 2 2 2 0) (two 3 0 0 16) ∷
    -- "r ≤ t − 1 and at most r − 2 processes sent no estimate": none and one in r = 2, one and two in r = 3
    moves (two 2 1 0 0) (five 2 2 2 2 2) (two 3 1 2 0) ∷
    moves (two 2 1 0 0) (five 2 2 2 2 0) (two 3 1 0 16) ∷
    moves (two 3 1 0 0) (five 2 2 2 2 0) (two 4 1 3 16) ∷
    moves (two 3 1 0 0) (five 2 2 2 0 0) (two 4 1 0 24) ∷
    -- with an estimate 0 among them it decides 0
    moves (two 3 1 0 0) (five 1 2 2 2 0) (two 4 0 3 16) ∷
    -- "r = t and at least n − t + 1 estimates": two and one in r = 4
    moves (two 4 1 0 0) (five 0 2 2 0 0) (two 5 1 4 25) ∷
    moves (two 4 1 0 0) (five 0 2 0 0 0) (two 5 1 0 29) ∷
    moves (two 4 1 0 0) (five 0 2 1 0 0) (two 5 0 4 25) ∷
    -- "r = t + 1"
    moves (two 5 1 0 0) (five 0 2 0 0 0) (two 6 1 5 29) ∷
    moves (two 5 1 0 0) (five 1 2 0 0 0) (two 6 0 5 28) ∷
    -- "A decided member changes nothing else."
    moves (two 3 1 2 0) (five 1 4 1 0 4) (two 4 1 2 0) ∷
    moves (two 3 0 2 0) (five 2 3 2 2 2) (two 4 0 2 0) ∷
    -- "A row heard while undecided from round 2 on, without a decided message, makes it the processes that sent no estimate", whoever it named before: it
    -- named processes 1 and 4, and becomes process 3 alone, nobody, and, by a row that holds an estimate 0 and decides, processes 4 and 5
    moves (two 2 1 0 9) (five 2 2 0 2 2) (two 3 1 0 4) ∷
    moves (two 2 1 0 9) (five 2 2 2 2 2) (two 3 1 2 0) ∷
    moves (two 4 1 0 9) (five 1 2 2 0 0) (two 5 0 4 24) ∷
    -- "Every other row leaves it.": in round 1, with a decided message of either value, and heard by a decided member
    moves (two 1 1 0 9) (five 2 2 0 2 2) (two 2 0 0 9) ∷
    moves (two 3 1 0 9) (five 0 2 3 0 2) (two 4 0 3 9) ∷
    moves (two 5 1 0 9) (five 0 2 0 0 4) (two 6 1 5 9) ∷
    moves (two 3 1 2 9) (five 0 4 2 2 0) (two 4 1 2 9) ∷
    -- "11": decided in 1, and stopped; and the silent set names process 6, or the own number
    refuses (two 3 1 1 0) [] 11 ∷
    refuses (two 2 1 0 32) (five 2 2 2 2 2) 11 ∷
    refuses (two 2 1 0 2) (five 2 2 2 2 2) 11 ∷
    -- "not stopped? 12": with a row that is not n long
    refuses (two 4 1 2 0) [] 12 ∷
    refuses (two 6 1 5 0) [] 12 ∷
    -- "row n long? 13": with a code 5
    refuses (two 2 1 0 0) (2 ∷ 2 ∷ 2 ∷ 5 ∷ []) 13 ∷
    refuses (two 2 1 0 0) (2 ∷ 2 ∷ 2 ∷ 2 ∷ 2 ∷ 5 ∷ []) 13 ∷
    -- "every code 0 to 4? 14": with another code in the own place
    refuses (two 2 1 0 0) (five 2 1 5 2 2) 14 ∷
    -- "own place equal to what it says now? 15": with a code 3 in round 2
    refuses (two 2 1 0 0) (five 2 1 3 2 2) 15 ∷
    refuses (two 3 1 2 0) (five 2 2 4 2 2) 15 ∷
    -- "no code 3 or 4 in rounds 1 and 2? 16": with both in round 2, and with one of them in each round
    refuses (two 2 1 0 0) (five 2 2 3 4 2) 16 ∷
    refuses (two 2 1 0 0) (five 2 2 3 2 2) 16 ∷
    refuses (two 1 1 0 0) (five 2 2 2 2 4) 16 ∷
    -- "not both 3 and 4? 17"
    refuses (two 3 1 0 0) (five 2 2 3 4 2) 17 ∷
    []

-- why a row decides
pub record ExplainCall : Type 0 where
  pub member : Member
  pub row : List ℕ
  pub answer : Answer Reason (Unit {0})

abbrev pub because : Member → List ℕ → Rule → ℕ → ExplainCall
because m row rule number = record { member = m; row = row; answer = accepted (record { rule = rule; number = number }) }

abbrev pub explains_not : Member → List ℕ → ℕ → ExplainCall
explains_not m row number = record { member = m; row = row; answer = refused number tt }

abbrev pub explanations : List ExplainCall
explanations =
    -- "a decided message with the lowest sender": processes 3 and 5, 1 and 5, with both values; and 5 alone, in a row that is quiet but for it
    because (two 3 1 0 0) (five 2 2 3 0 3) Told 3 ∷
    because (two 3 0 0 0) (five 4 1 0 0 4) Told 1 ∷
    because (two 3 1 0 0) (five 2 2 2 2 3) Told 5 ∷
    -- also in round t, with enough estimates, and in the last round
    because (two 4 1 0 0) (five 2 2 3 0 0) Told 3 ∷
    because (two 5 1 0 0) (five 0 2 0 3 0) Told 4 ∷
    -- "round 2 with zeros only": two missing, and nobody missing, which is a quiet round too
    because (two 2 0 0 0) (five 1 1 0 0 1) ZerosOnly 0 ∷
    because (two 2 0 0 0) (five 1 1 1 1 1) ZerosOnly 0 ∷
    -- "a quiet round with its number of missing estimates": none in r = 2, one and none in r = 3
    because (two 2 1 0 0) (five 2 2 2 2 2) Quiet 0 ∷
    because (two 2 1 0 0) (five 1 2 2 2 2) Quiet 0 ∷
    because (two 3 1 0 0) (five 2 2 2 2 0) Quiet 1 ∷
    because (two 3 0 0 0) (five 1 1 1 1 1) Quiet 0 ∷
    -- "round t with its number of estimates": two of five, and all
    because (two 4 1 0 0) (five 0 2 2 0 0) RoundT 2 ∷
    because (two 4 1 0 0) (five 2 2 1 2 2) RoundT 5 ∷
    -- "or the last round"
    because (two 5 1 0 0) (five 0 2 0 0 0) LastRound 0 ∷
    because (two 5 1 0 0) (five 2 2 2 2 2) LastRound 0 ∷
    -- a row that does not decide: two missing in r = 3; too few estimates in r = t; in round 1; and heard by a decided member
    because (two 3 1 0 0) (five 2 2 2 0 0) NoRule 0 ∷
    because (two 4 1 0 0) (five 0 2 0 0 0) NoRule 0 ∷
    because (two 1 0 0 0) (five 1 1 1 1 1) NoRule 0 ∷
    because (two 3 1 2 0) (five 2 4 2 2 4) NoRule 0 ∷
    -- a row that is refused, with the number that hearing it gets: 12, 15 and 17
    explains_not (two 4 1 2 0) [] 12 ∷
    explains_not (two 2 1 0 0) (five 2 1 3 2 2) 15 ∷
    explains_not (two 3 1 0 0) (five 2 2 3 4 2) 17 ∷
    []

-- each of these calls has its answer
pub record MemberVectors : Type 0 where
  pub opened : map (λ o. open_answer largest o.n o.t o.id o.vote) openings ≡ map (λ o. o.answer) openings
  pub said : map (λ s. say_answer largest s.member) sayings ≡ map (λ s. s.answer) sayings
  pub heard : map (λ h. hear_answer largest h.member h.row) hearings ≡ map (λ h. h.answer) hearings
  pub explained : map (λ e. explain_answer largest e.member e.row) explanations ≡ map (λ e. e.answer) explanations

-- What each case of an answer stands for: a refusal holds document 01's number, an acceptance the state, the code or the reason.
pub record AnswerCases (m : Member) (reason : Reason) : Type 0 where
  pub started : answer_is (Ok m) ≡ accepted m
  pub not_opened : answer_is {A = Member} (Err OwnNumber) ≡ refused 10 tt
  pub spoken : answer_is {A = ℕ} (Ok 4) ≡ accepted 4
  pub not_said : answer_is {A = ℕ} (Err State) ≡ refused 11 tt
  pub moved : answer_with_is {A = Member} {B = Member} (Ok m) ≡ accepted m
  pub not_heard : answer_with_is {A = Member} (Err (record { question = OwnCode; back = m })) ≡ refused 15 m
  pub why : answer_is (Ok reason) ≡ accepted reason
  pub not_explained : answer_is {A = Reason} (Err Crashes) ≡ refused 7 tt
