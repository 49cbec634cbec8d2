use Rattle.std.proofs.Common.{◌≡◌, Ok, IfOk, IfErr, sym, ap, subst}
use Rattle.xfs_proto.specs.declared.reading.NextToken.{NextToken}
use Rattle.xfs_proto.specs.Reading.{State, IsProtoCause, after_text, reader_state}
use Rattle.xfs_proto.proofs.reading.Reader.take_token.Goals as goal

pub take_name-requires : goal.take_name-requires
take_name-requires c = record { steady = record { names = c.requires.steady.names } }

pub returns-in-Name-clause-held : goal.returns-in-Name-clause-held
returns-in-Name-clause-held c =
    let s : State = record (reader_state c.args.self.now) { line = c.args.line } in
    subst (λ (e : NextToken). IfOk c.take_name.result (λ _. after_text e c.args.text.now s ≡ Ok (reader_state c.take_name.new.self))) (sym c.in-Name.is) c.take_name.ensures.held

pub returns-in-Name-clause-steady : goal.returns-in-Name-clause-steady
returns-in-Name-clause-steady c = c.take_name.ensures.steady

pub returns-in-Name-clause-refusal : goal.returns-in-Name-clause-refusal
returns-in-Name-clause-refusal c =
    let s : State = record (reader_state c.args.self.now) { line = c.args.line } in
    subst (λ (e : NextToken). IfErr c.take_name.result (IsProtoCause (after_text e c.args.text.now s))) (sym c.in-Name.is) c.take_name.ensures.refusal

pub take_mode-requires : goal.take_mode-requires
take_mode-requires c = record { steady = record { names = c.requires.steady.names } }

pub returns-in-Mode-clause-held : goal.returns-in-Mode-clause-held
returns-in-Mode-clause-held c =
    let s : State = record (reader_state c.args.self.now) { line = c.args.line } in
    subst (λ (e : NextToken). IfOk c.take_mode.result (λ _. after_text e c.args.text.now s ≡ Ok (reader_state c.take_mode.new.self))) (sym c.in-Mode.is) c.take_mode.ensures.held

pub returns-in-Mode-clause-steady : goal.returns-in-Mode-clause-steady
returns-in-Mode-clause-steady c = c.take_mode.ensures.steady

pub returns-in-Mode-clause-refusal : goal.returns-in-Mode-clause-refusal
returns-in-Mode-clause-refusal c =
    let s : State = record (reader_state c.args.self.now) { line = c.args.line } in
    subst (λ (e : NextToken). IfErr c.take_mode.result (IsProtoCause (after_text e c.args.text.now s))) (sym c.in-Mode.is) c.take_mode.ensures.refusal

pub take_user-requires : goal.take_user-requires
take_user-requires c = record { steady = record { names = c.requires.steady.names } }

pub returns-in-User-clause-held : goal.returns-in-User-clause-held
returns-in-User-clause-held c =
    let s : State = record (reader_state c.args.self.now) { line = c.args.line } in
    subst (λ (e : NextToken). IfOk c.take_user.result (λ _. after_text e c.args.text.now s ≡ Ok (reader_state c.take_user.new.self))) (sym c.in-User.is) c.take_user.ensures.held

pub returns-in-User-clause-steady : goal.returns-in-User-clause-steady
returns-in-User-clause-steady c = c.take_user.ensures.steady

pub returns-in-User-clause-refusal : goal.returns-in-User-clause-refusal
returns-in-User-clause-refusal c =
    let s : State = record (reader_state c.args.self.now) { line = c.args.line } in
    subst (λ (e : NextToken). IfErr c.take_user.result (IsProtoCause (after_text e c.args.text.now s))) (sym c.in-User.is) c.take_user.ensures.refusal

pub take_group-requires : goal.take_group-requires
take_group-requires c = record { steady = record { names = c.requires.steady.names } }

pub returns-in-Group-clause-held : goal.returns-in-Group-clause-held
returns-in-Group-clause-held c =
    let s : State = record (reader_state c.args.self.now) { line = c.args.line } in
    subst (λ (e : NextToken). IfOk c.take_group.result (λ _. after_text e c.args.text.now s ≡ Ok (reader_state c.take_group.new.self))) (sym c.in-Group.is) c.take_group.ensures.held

pub returns-in-Group-clause-steady : goal.returns-in-Group-clause-steady
returns-in-Group-clause-steady c = c.take_group.ensures.steady

pub returns-in-Group-clause-refusal : goal.returns-in-Group-clause-refusal
returns-in-Group-clause-refusal c =
    let s : State = record (reader_state c.args.self.now) { line = c.args.line } in
    subst (λ (e : NextToken). IfErr c.take_group.result (IsProtoCause (after_text e c.args.text.now s))) (sym c.in-Group.is) c.take_group.ensures.refusal

pub take_source-requires : goal.take_source-requires
take_source-requires c = record { steady = record { names = c.requires.steady.names } }

pub returns-in-Source-clause-held : goal.returns-in-Source-clause-held
returns-in-Source-clause-held c =
    let s : State = record (reader_state c.args.self.now) { line = c.args.line } in
    subst (λ (e : NextToken). IfOk c.take_source.result (λ _. after_text e c.args.text.now s ≡ Ok (reader_state c.take_source.new.self))) (sym c.in-Source.is) c.take_source.ensures.held

pub returns-in-Source-clause-steady : goal.returns-in-Source-clause-steady
returns-in-Source-clause-steady c = c.take_source.ensures.steady

pub returns-in-Source-clause-refusal : goal.returns-in-Source-clause-refusal
returns-in-Source-clause-refusal c =
    let s : State = record (reader_state c.args.self.now) { line = c.args.line } in
    subst (λ (e : NextToken). IfErr c.take_source.result (IsProtoCause (after_text e c.args.text.now s))) (sym c.in-Source.is) c.take_source.ensures.refusal

pub take_target-requires : goal.take_target-requires
take_target-requires c = record { steady = record { names = c.requires.steady.names } }

pub returns-in-Target-clause-held : goal.returns-in-Target-clause-held
returns-in-Target-clause-held c =
    let s : State = record (reader_state c.args.self.now) { line = c.args.line } in
    subst (λ (e : NextToken). IfOk c.take_target.result (λ _. after_text e c.args.text.now s ≡ Ok (reader_state c.take_target.new.self))) (sym c.in-Target.is) c.take_target.ensures.held

pub returns-in-Target-clause-steady : goal.returns-in-Target-clause-steady
returns-in-Target-clause-steady c = c.take_target.ensures.steady

pub returns-in-Target-clause-refusal : goal.returns-in-Target-clause-refusal
returns-in-Target-clause-refusal c =
    let s : State = record (reader_state c.args.self.now) { line = c.args.line } in
    subst (λ (e : NextToken). IfErr c.take_target.result (IsProtoCause (after_text e c.args.text.now s))) (sym c.in-Target.is) c.take_target.ensures.refusal

pub take_major-requires : goal.take_major-requires
take_major-requires c = record { steady = record { names = c.requires.steady.names } }

pub returns-in-Major-clause-held : goal.returns-in-Major-clause-held
returns-in-Major-clause-held c =
    let s : State = record (reader_state c.args.self.now) { line = c.args.line } in
    subst (λ (e : NextToken). IfOk c.take_major.result (λ _. after_text e c.args.text.now s ≡ Ok (reader_state c.take_major.new.self))) (sym c.in-Major.is) c.take_major.ensures.held

pub returns-in-Major-clause-steady : goal.returns-in-Major-clause-steady
returns-in-Major-clause-steady c = c.take_major.ensures.steady

pub returns-in-Major-clause-refusal : goal.returns-in-Major-clause-refusal
returns-in-Major-clause-refusal c =
    let s : State = record (reader_state c.args.self.now) { line = c.args.line } in
    subst (λ (e : NextToken). IfErr c.take_major.result (IsProtoCause (after_text e c.args.text.now s))) (sym c.in-Major.is) c.take_major.ensures.refusal

pub take_minor-requires : goal.take_minor-requires
take_minor-requires c = record { steady = record { names = c.requires.steady.names } }

pub returns-in-Minor-clause-held : goal.returns-in-Minor-clause-held
returns-in-Minor-clause-held c =
    let s : State = record (reader_state c.args.self.now) { line = c.args.line } in
    subst (λ (e : NextToken). IfOk c.take_minor.result (λ _. after_text e c.args.text.now s ≡ Ok (reader_state c.take_minor.new.self))) (sym c.in-Minor.is) c.take_minor.ensures.held

pub returns-in-Minor-clause-steady : goal.returns-in-Minor-clause-steady
returns-in-Minor-clause-steady c = c.take_minor.ensures.steady

pub returns-in-Minor-clause-refusal : goal.returns-in-Minor-clause-refusal
returns-in-Minor-clause-refusal c =
    let s : State = record (reader_state c.args.self.now) { line = c.args.line } in
    subst (λ (e : NextToken). IfErr c.take_minor.result (IsProtoCause (after_text e c.args.text.now s))) (sym c.in-Minor.is) c.take_minor.ensures.refusal

pub take_ignored-requires : goal.take_ignored-requires
take_ignored-requires c = record { steady = record { names = c.requires.steady.names } }

pub returns-in-Ignored-clause-held : goal.returns-in-Ignored-clause-held
returns-in-Ignored-clause-held c =
    let s : State = record (reader_state c.args.self.now) { line = c.args.line } in
    subst (λ (e : NextToken). after_text e c.args.text.now s ≡ Ok (reader_state c.take_ignored.new.self)) (sym c.in-Ignored.is) (ap Ok (sym c.take_ignored.ensures.held))

pub returns-in-Ignored-clause-steady : goal.returns-in-Ignored-clause-steady
returns-in-Ignored-clause-steady c = c.take_ignored.ensures.steady

pub returns-in-Ignored-clause-refusal : goal.returns-in-Ignored-clause-refusal
returns-in-Ignored-clause-refusal c = tt
