-- `attributelines::is_definition` meets its contract: the first byte that differs, or none.
use native.Mathlib.Omega.{arith}
use Rattle.attributelines.proofs.MentionLaws.{definition_yes, definition_no}
use Rattle.attributelines.proofs.is_definition.Goals as goal

pub returns-in-91 : goal.returns-in-91
returns-in-91 c = definition_yes _ (omega arith) (omega arith) (omega arith) (omega arith) (omega arith) (omega arith) (omega arith)

pub returns-in_default : goal.returns-in_default
returns-in_default c = definition_no _ (λ l q r s t u v. omega arith)

pub returns-in_default-2 : goal.returns-in_default-2
returns-in_default-2 c = definition_no _ (λ l q r s t u v. omega arith)

pub returns-in_default-3 : goal.returns-in_default-3
returns-in_default-3 c = definition_no _ (λ l q r s t u v. omega arith)

pub returns-in_default-4 : goal.returns-in_default-4
returns-in_default-4 c = definition_no _ (λ l q r s t u v. omega arith)

pub returns-in_default-5 : goal.returns-in_default-5
returns-in_default-5 c = definition_no _ (λ l q r s t u v. omega arith)

pub returns-in_default-6 : goal.returns-in_default-6
returns-in_default-6 c = definition_no _ (λ l q r s t u v. omega arith)

pub returns-in_default-7 : goal.returns-in_default-7
returns-in_default-7 c = definition_no _ (λ l q r s t u v. omega arith)
