-- The files that are asked for: generated ones, those of a protofile, or none but the root.
use Rattle.std.proofs.Common.{◌≡◌, ℕ, List, Option, Some, None, Ok, ap, sym, subst, ◌∙◌}
use Rattle.xfs_disk.specs.Files.{Files}
use Rattle.xfs_options.specs.declared.make_words.MakeOptions.{MakeOptions}
use Rattle.xfs_mkfs.specs.FilesAsked.{AreGenerated, CanBePlanned, IsAsked, IsByCount, IsByProto, IsFilesAnswer, IsFilesRefusal, IsProtoAnswer, IsProtoRefusal, IsReadByProto, by_count, by_proto}
use Rattle.xfs_mkfs.specs.declared.files.FilesAsked.{FilesAsked}
use Rattle.xfs_mkfs.specs.declared.files.FilesAsked.TheVariants.{Root, Listed}
use Rattle.xfs_mkfs.specs.declared.outcome.MakeOutcome.{MakeOutcome}
use Rattle.xfs_mkfs.specs.declared.outcome.MakeOutcome.TheVariants as Out

-- what is asked for can be planned
proto_planned : (proto : Option (List ℕ)) (asked : FilesAsked) → IsByProto proto asked → CanBePlanned asked
proto_planned proto Root is = tt
proto_planned None (Listed nodes contents) is = absurd cc
proto_planned (Some name) (Listed nodes contents) is = is

pub can_be_planned : (generate : Option ℕ) (proto : Option (List ℕ)) (asked : FilesAsked) → IsByCount generate proto asked → CanBePlanned asked
can_be_planned (Some n) proto asked is = is.1
can_be_planned None proto asked is = proto_planned proto asked is

-- generated files are asked for, whatever the library has
pub generated_asked : (o : MakeOptions) (told : Option Files) (n : ℕ) (asked : FilesAsked) → o.generate ≡ Some n → AreGenerated n asked → IsAsked o told asked
generated_asked o told n asked is are = record {
  kind = subst (λ (count : Option ℕ). IsByCount count o.proto asked) (sym is) are;
  due = λ map tells. ap (λ (count : Option ℕ). by_count count (by_proto o.proto map)) is ∙ ap (λ (files : FilesAsked). Ok files) (sym are.0);
}

pub generated_answer : (o : MakeOptions) (told : Option Files) (outcome : MakeOutcome) → outcome ≡ Out.NoMemory → IsFilesAnswer o told outcome
generated_answer o told outcome is = subst (λ (x : MakeOutcome). IsFilesAnswer o told x) (sym is) tt

-- without them those of a protofile are, or none but the root
pub named_asked : (o : MakeOptions) (told : Option Files) (asked : FilesAsked) → o.generate ≡ None → IsReadByProto o.proto told asked → IsAsked o told asked
named_asked o told asked none read = record {
  kind = subst (λ (count : Option ℕ). IsByCount count o.proto asked) (sym none) read.kind;
  due = λ map tells. ap (λ (count : Option ℕ). by_count count (by_proto o.proto map)) none ∙ read.due map tells;
}

named_refusal : (o : MakeOptions) (told : Option Files) (outcome : MakeOutcome) → o.generate ≡ None → IsProtoRefusal o.proto told outcome → IsFilesRefusal o told outcome
named_refusal o told outcome none due = λ map tells. ap (λ (count : Option ℕ). by_count count (by_proto o.proto map)) none ∙ due map tells

pub named_answer : (o : MakeOptions) (told : Option Files) (outcome : MakeOutcome) → o.generate ≡ None → IsProtoAnswer o.proto told outcome → IsFilesAnswer o told outcome
named_answer o told (Out.Made summary) none is = is
named_answer o told (Out.TooSmall what) none is = is
named_answer o told Out.HasVolume none is = is
named_answer o told (Out.BadProto line reason) none is = named_refusal o told (Out.BadProto line reason) none is
named_answer o told (Out.NoFile line) none is = named_refusal o told (Out.NoFile line) none is
named_answer o told Out.LibraryFault none is = tt
named_answer o told (Out.NoRoom what) none is = is
named_answer o told (Out.ReadFault faults) none is = is
named_answer o told (Out.WriteFault n) none is = is
named_answer o told Out.NoMemory none is = tt
