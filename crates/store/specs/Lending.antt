-- What a list ends as, where its items are lent to be written.
use Rattle.std.specs.Prelude.{List, ◌++◌, take, drop, length}
use Rattle.std.specs.Borrow.{Lends, Fml, RattleType, MutBor, Array}
use Rattle.store.specs.contracts.store.Store.{the_row}

-- xs with ws as its items: where ws has another length it is cut, or filled up from xs, so that the length stays
abbrev pub rewritten : {A : Type 0} → List A → List A → List A
rewritten xs ws = take (length xs) (ws ++ drop (length ws) xs)

-- once the borrow r ends, the items of s are those that r shows last
abbrev pub LendsItems : (T N : RattleType) (s : MutBor (List T.Denot)) → MutBor (List T.Denot) → Fml
LendsItems T N s r = Lends (the_row T N) (Array T 0) s r (rewritten s.now)
