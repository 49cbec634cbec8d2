use Rattle.xfs_render.proofs.objects.add_sealed.Goals as goal

pub put_object-requires-clause-inside : goal.put_object-requires-clause-inside
put_object-requires-clause-inside c = c.requires.inside

pub put_object-requires-clause-built : goal.put_object-requires-clause-built
put_object-requires-clause-built c = c.requires.built

pub add_block-requires-clause-draft : goal.add_block-requires-clause-draft
add_block-requires-clause-draft c = c.requires.draft
