-- What a call did, from the clauses of the call that it ends with.
use Rattle.std.proofs.Common.{◌≡◌, ℕ, List, ◌++◌, Option, Some, None, Result, Ok, Err, IfOk, IfSome, refl, ap, subst}
use Rattle.std.specs.Prelude.{OnOk}
use Rattle.xfs_commands.specs.Commands.{Session, Effect, IsEffect, Put, put_of, refuses}
use Rattle.xfs_commands.specs.declared.cursor.Verdict.{Verdict}
use Rattle.xfs_commands.specs.declared.cursor.Verdict.TheVariants.{Refused}

-- a refusal with a line
pub refused : {E : Type 0} (r : Result Verdict E) (old new line : List ℕ) (s : Session) → IfOk r (λ (v : Verdict). v ≡ Refused) → OnOk r (new ≡ old ++ line)
    → IfOk r (λ (v : Verdict). IsEffect (refuses line s) v old new s None)
refused (Ok v) old new line s verdict text = record { verdict_is = verdict; text_is = text; session_is = refl; put_is = refl }
refused (Err e) old new line s verdict text = tt

-- the same effect by another name
pub effect_as : {E : Type 0} (r : Result Verdict E) (old new : List ℕ) (s : Session) (put : Put) (e f : Effect) → f ≡ e
    → IfOk r (λ (v : Verdict). IsEffect f v old new s put) → IfOk r (λ (v : Verdict). IsEffect e v old new s put)
effect_as r old new s put e f is did = subst (λ (x : Effect). IfOk r (λ (v : Verdict). IsEffect x v old new s put)) is did

-- both where the block is the one to be written if the command was run
pub refused_put : {E : Type 0} (r : Result Verdict E) (old new line : List ℕ) (s : Session) (at : ℕ) (block : List ℕ) → IfOk r (λ (v : Verdict). v ≡ Refused)
    → OnOk r (new ≡ old ++ line) → IfOk r (λ (v : Verdict). IsEffect (refuses line s) v old new s (put_of v at block))
refused_put (Ok v) old new line s at block verdict text =
    record { verdict_is = verdict; text_is = text; session_is = refl; put_is = ap (λ (w : Verdict). put_of w at block) verdict }
refused_put (Err e) old new line s at block verdict text = tt

pub effect_put : {E : Type 0} (r : Result Verdict E) (old new : List ℕ) (s : Session) (at : ℕ) (block : List ℕ) (e f : Effect) → f ≡ e
    → IfOk r (λ (v : Verdict). IsEffect f v old new s (put_of v at block)) → IfOk r (λ (v : Verdict). IsEffect e v old new s (put_of v at block))
effect_put r old new s at block e f is did = subst (λ (x : Effect). IfOk r (λ (v : Verdict). IsEffect x v old new s (put_of v at block))) is did

-- two facts of a place that is there are one
pub both_of : {X : Type 0} (P Q : X → Type 0) (o : Option X) → IfSome o P → IfSome o Q → IfSome o (λ (x : X). P x × Q x)
both_of P Q None p q = tt
both_of P Q (Some x) p q = (p, q)
