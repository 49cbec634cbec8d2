use Rattle.std.proofs.Common.{ap, sym, ◌∙◌}
use Rattle.uuid.specs.Text.{hyphenated_text}
use Rattle.xfs_texts.proofs.Telling.{puts_as}
use Rattle.xfs_tools.proofs.texts.put_identifier.Goals as goal

pub returns : goal.returns
returns g c =
    puts_as _ _ _ _ _ _ _ (sym (c.encode_lower.ensures.text ∙ ap (hyphenated_text 97) (c.hyphenated-hyphenated.ensures ∙ c.from_bytes.ensures)))
    c.put_text.ensures
