-- A script of calls, made one after another. Assumes nothing.
use Rattle.std.proofs.Common.{◌≡◌, ℕ, ◌+◌, ◌<◌, ◌≤◌, List, ◌++◌, length, get_or, take, drop, set, sym, ◌∙◌, arith}
use Rattle.std.proofs.lemmas.List.{drop_more}
use Rattle.std.proofs.lemmas.Grind.{common_steps}
use Rattle.scheme.specs.declared.script.Call.{Call}
use Rattle.scheme.specs.declared.script.Answer.{Answer}
use Rattle.scheme.specs.Meaning.{Meaning, Follows, at_start}
use Rattle.scheme.specs.Runs.{Ran}
use Rattle.scheme.specs.Scripts.{on_call, after, answers}
use Rattle.scheme.proofs.Histories.{script_lawful}

-- call i is made: the rest goes on from what it left, behind its answer
pub one_more : {S : Type 0} {meaning : S → Meaning} {s s' : S} {a : Answer}
    (calls : List Call) (given : List Answer) (i : ℕ) (d : Call) → i < length calls → i < length given →
    Follows meaning (on_call (get_or calls i d)) s s' a →
    (after (meaning s') (drop (i + 1) calls) ≡ after (meaning s) (drop i calls))
    × (take (i + 1) (set given i a) ++ answers (meaning s') (drop (i + 1) calls) ≡ take i given ++ answers (meaning s) (drop i calls))
one_more calls given i d l k did = grind (arith, common_steps, drop_more calls i d l, did)

-- behind the last call there is nothing left to make, and no answer left to give
pub past_the_last : (calls : List Call) (given : List Answer) (i : ℕ) (m : Meaning) → length calls ≤ i → length given ≤ i →
    (after m (drop i calls) ≡ m) × (take i given ++ answers m (drop i calls) ≡ given)
past_the_last calls given i m l k = (grind (arith, common_steps), grind (arith, common_steps))

-- all calls are made
pub all_made : {S : Type 0} (meaning : S → Meaning) (calls : List Call) (scheme : S) (given : List Answer) (i : ℕ) → length calls ≤ i → length given ≤ i →
    after (meaning scheme) (drop i calls) ≡ after at_start calls → take i given ++ answers (meaning scheme) (drop i calls) ≡ answers at_start calls →
    Ran meaning calls scheme given
all_made meaning calls scheme given i l k goes_on answered =
    let past = past_the_last calls given i (meaning scheme) l k in
    let means : meaning scheme ≡ after at_start calls = sym past.0 ∙ goes_on in
    let told : given ≡ answers at_start calls = sym past.1 ∙ answered in
    record { means = means; answered = told; lawful = script_lawful calls given (meaning scheme) means told }
