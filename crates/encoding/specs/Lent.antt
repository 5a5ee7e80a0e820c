-- The lists that a program lends.
use Rattle.encoding.specs.declared.Lists.{Lists as LentLists}
use Rattle.encoding.specs.Lists.{Lists, lists}

abbrev pub lent : LentLists → Lists
lent l = lists l.options.now l.starts.now l.moves.now
