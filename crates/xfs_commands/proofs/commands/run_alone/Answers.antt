use Rattle.std.proofs.Common.{ℕ, List, sym, ap, ◌∙◌}
use Rattle.xfs_geom.specs.Volumes.{volume_of}
use Rattle.xfs_commands.specs.Commands.{does, hash_text, session_of, to_number}
use Rattle.xfs_commands.specs.Verbs.{runs_alone}
use Rattle.xfs_commands.specs.declared.commands.Verb.{Verb}
use Rattle.xfs_objects.specs.declared.convert.Measure.TheVariants as measure
use Rattle.xfs_objects.specs.declared.objects.ObjectType.TheVariants as kind
use Rattle.xfs_commands.proofs.Effects.{effect_as, refused}
use Rattle.xfs_commands.proofs.commands.run_alone.Goals as goal

pub returns-in-Sb : goal.returns-in-Sb
returns-in-Sb c =
    record {
      within = c.go_to_head.ensures.within;
      effect =
          effect_as _ _ _ _ _ _ _
          (ap (λ (t : Verb). runs_alone (volume_of c.args.geometry.now) t c.args.name.now c.args.arguments.now (session_of c.args.cursor.now)) (sym c.in-Sb.is))
          c.go_to_head.ensures.effect;
    }

pub returns-in-Agf : goal.returns-in-Agf
returns-in-Agf c =
    record {
      within = c.go_to_head-in-Agf.ensures.within;
      effect =
          effect_as _ _ _ _ _ _ _
          (ap (λ (t : Verb). runs_alone (volume_of c.args.geometry.now) t c.args.name.now c.args.arguments.now (session_of c.args.cursor.now)) (sym c.in-Agf.is))
          c.go_to_head-in-Agf.ensures.effect;
    }

pub returns-in-Agi : goal.returns-in-Agi
returns-in-Agi c =
    record {
      within = c.go_to_head-in-Agi.ensures.within;
      effect =
          effect_as _ _ _ _ _ _ _
          (ap (λ (t : Verb). runs_alone (volume_of c.args.geometry.now) t c.args.name.now c.args.arguments.now (session_of c.args.cursor.now)) (sym c.in-Agi.is))
          c.go_to_head-in-Agi.ensures.effect;
    }

pub returns-in-Agfl : goal.returns-in-Agfl
returns-in-Agfl c =
    record {
      within = c.go_to_head-in-Agfl.ensures.within;
      effect =
          effect_as _ _ _ _ _ _ _
          (ap (λ (t : Verb). runs_alone (volume_of c.args.geometry.now) t c.args.name.now c.args.arguments.now (session_of c.args.cursor.now)) (sym c.in-Agfl.is))
          c.go_to_head-in-Agfl.ensures.effect;
    }

pub returns-in-Inode : goal.returns-in-Inode
returns-in-Inode c =
    record {
      within = c.go_to_number.ensures.within;
      effect =
          effect_as _ _ _ _ _ _ _
          (ap (λ (w : List ℕ). to_number (volume_of c.args.geometry.now) measure.InodeNumber kind.Inode w (session_of c.args.cursor.now)) c.word_at-first.ensures
          ∙ ap (λ (t : Verb). runs_alone (volume_of c.args.geometry.now) t c.args.name.now c.args.arguments.now (session_of c.args.cursor.now)) (sym c.in-Inode.is))
          c.go_to_number.ensures.effect;
    }

pub returns-in-FsBlock : goal.returns-in-FsBlock
returns-in-FsBlock c =
    record {
      within = c.go_to_number-in-FsBlock.ensures.within;
      effect =
          effect_as _ _ _ _ _ _ _
          (ap (λ (w : List ℕ). to_number (volume_of c.args.geometry.now) measure.FsBlock kind.Data w (session_of c.args.cursor.now)) c.word_at-first.ensures
          ∙ ap (λ (t : Verb). runs_alone (volume_of c.args.geometry.now) t c.args.name.now c.args.arguments.now (session_of c.args.cursor.now)) (sym c.in-FsBlock.is))
          c.go_to_number-in-FsBlock.ensures.effect;
    }

pub returns-in-DiskAddress : goal.returns-in-DiskAddress
returns-in-DiskAddress c =
    record {
      within = c.go_to_number-in-DiskAddress.ensures.within;
      effect =
          effect_as _ _ _ _ _ _ _
          (ap (λ (w : List ℕ). to_number (volume_of c.args.geometry.now) measure.DiskAddress kind.Data w (session_of c.args.cursor.now)) c.word_at-first.ensures
          ∙ ap (λ (t : Verb). runs_alone (volume_of c.args.geometry.now) t c.args.name.now c.args.arguments.now (session_of c.args.cursor.now)) (sym c.in-DiskAddress.is))
          c.go_to_number-in-DiskAddress.ensures.effect;
    }

pub returns-in-Retype : goal.returns-in-Retype
returns-in-Retype c =
    record {
      within = c.change_type.ensures.within c.args.geometry.now.dblocks c.requires.within;
      effect =
          effect_as _ _ _ _ _ _ _
          (ap (λ (t : Verb). runs_alone (volume_of c.args.geometry.now) t c.args.name.now c.args.arguments.now (session_of c.args.cursor.now)) (sym c.in-Retype.is))
          c.change_type.ensures.effect;
    }

pub returns-in-Pop : goal.returns-in-Pop
returns-in-Pop c =
    record {
      within = c.pop.ensures.within c.args.geometry.now.dblocks c.requires.within;
      effect =
          effect_as _ _ _ _ _ _ _
          (ap (λ (t : Verb). runs_alone (volume_of c.args.geometry.now) t c.args.name.now c.args.arguments.now (session_of c.args.cursor.now)) (sym c.in-Pop.is))
          c.pop.ensures.effect;
    }

pub returns-in-Stack : goal.returns-in-Stack
returns-in-Stack c =
    record {
      within = c.requires.within;
      effect =
          effect_as _ _ _ _ _ _ _
          (ap (λ (t : Verb). runs_alone (volume_of c.args.geometry.now) t c.args.name.now c.args.arguments.now (session_of c.args.cursor.now)) (sym c.in-Stack.is))
          c.show_stack.ensures;
    }

pub returns-in-Convert : goal.returns-in-Convert
returns-in-Convert c =
    record {
      within = c.requires.within;
      effect =
          effect_as _ _ _ _ _ _ _
          (ap (λ (t : Verb). runs_alone (volume_of c.args.geometry.now) t c.args.name.now c.args.arguments.now (session_of c.args.cursor.now)) (sym c.in-Convert.is))
          c.convert_named.ensures;
    }

pub returns-in-Hash : goal.returns-in-Hash
returns-in-Hash c =
    record {
      within = c.requires.within;
      effect =
          effect_as _ _ _ _ _ _ _
          (ap (λ (w : List ℕ). does (hash_text w) (session_of c.args.cursor.now)) c.word_at-first.ensures
          ∙ ap (λ (t : Verb). runs_alone (volume_of c.args.geometry.now) t c.args.name.now c.args.arguments.now (session_of c.args.cursor.now)) (sym c.in-Hash.is))
          c.hash.ensures;
    }

pub returns-in-Addr : goal.returns-in-Addr
returns-in-Addr c =
    record {
      within = c.requires.within;
      effect =
          effect_as _ _ _ _ _ _ _
          (ap (λ (t : Verb). runs_alone (volume_of c.args.geometry.now) t c.args.name.now c.args.arguments.now (session_of c.args.cursor.now)) (sym c.in-Addr.is))
          (refused _ _ _ _ _ c.refuse_word.ensures.verdict c.refuse_word.ensures.text);
    }

pub returns-in-Print : goal.returns-in-Print
returns-in-Print c =
    record {
      within = c.requires.within;
      effect =
          effect_as _ _ _ _ _ _ _
          (ap (λ (t : Verb). runs_alone (volume_of c.args.geometry.now) t c.args.name.now c.args.arguments.now (session_of c.args.cursor.now)) (sym c.in-Print.is))
          (refused _ _ _ _ _ c.refuse_word-in-Print.ensures.verdict c.refuse_word-in-Print.ensures.text);
    }

pub returns-in-Push : goal.returns-in-Push
returns-in-Push c =
    record {
      within = c.requires.within;
      effect =
          effect_as _ _ _ _ _ _ _
          (ap (λ (t : Verb). runs_alone (volume_of c.args.geometry.now) t c.args.name.now c.args.arguments.now (session_of c.args.cursor.now)) (sym c.in-Push.is))
          (refused _ _ _ _ _ c.refuse_word-in-Push.ensures.verdict c.refuse_word-in-Push.ensures.text);
    }

pub returns-in-Write : goal.returns-in-Write
returns-in-Write c =
    record {
      within = c.requires.within;
      effect =
          effect_as _ _ _ _ _ _ _
          (ap (λ (t : Verb). runs_alone (volume_of c.args.geometry.now) t c.args.name.now c.args.arguments.now (session_of c.args.cursor.now)) (sym c.in-Write.is))
          (refused _ _ _ _ _ c.refuse_word-in-Write.ensures.verdict c.refuse_word-in-Write.ensures.text);
    }

pub returns-in-Quit-clause-within : goal.returns-in-Quit-clause-within
returns-in-Quit-clause-within c = c.requires.within
