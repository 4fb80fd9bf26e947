use borrow.Author.Tests.{le-ltb}
use Rattle.lists.proofs.Sets.{sets_front}
use Rattle.patterns.proofs.store_word.Goals as goal

pub returns : goal.returns
returns c =
    rw (le-ltb _ _ c.if-store-word.false, c.put.ensures, sets_front c.args.store.now c.args.word.now c.if-store-word.false)
