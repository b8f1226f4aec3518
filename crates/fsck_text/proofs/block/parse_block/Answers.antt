use Rattle.fsck_text.proofs.block.parse_block.Goals as goal

pub returns : goal.returns
returns c = rw (← c.word_and_rest.ensures, ← c.in_ok-block_named.ensures) c.parse_after_name.ensures
