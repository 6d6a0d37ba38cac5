-- What the tests before an action on the linked stacks answer, and the pointers after a drop.
use Rattle.std.specs.Prelude.{Option, Some, None, List, ℕ, ◌-◌, ltb, leb, eqb, get_or}
use Rattle.plain.specs.Answer.{Answer, refuses, gives}
use Rattle.plain.specs.Choice.{pick}
use Rattle.links.specs.Depths.{cells_depth, returns_depth, subroutines_depth, exceptions_depth}

unfoldable pub pushable : ℕ → ℕ → Answer (Unit {0})
pushable p r = pick (ltb p 1) (refuses 5) (pick (leb returns_depth r) (refuses 9) (gives tt))

unfoldable pub readable : ℕ → ℕ → Answer (Unit {0})
readable p r = pick (eqb r 0) (refuses 6) (pick (leb cells_depth p) (refuses 8) (gives tt))

unfoldable pub callable : ℕ → ℕ → ℕ → ℕ → Answer (Unit {0})
callable takes p r s =
    pick (ltb p takes) (refuses 5) (pick (leb returns_depth r) (refuses 9) (pick (leb subroutines_depth s) (refuses 10) (gives tt)))

unfoldable pub catchable : ℕ → ℕ → ℕ → ℕ → Answer (Unit {0})
catchable p r s e =
    pick (ltb p 1) (refuses 5)
    (pick (leb returns_depth r) (refuses 9) (pick (leb subroutines_depth s) (refuses 10) (pick (leb exceptions_depth e) (refuses 11) (gives tt))))

-- what is thrown: nothing by THROW of 0
unfoldable pub throwable : List ℕ → ℕ → ℕ → Answer (Option ℕ)
throwable cells p e =
    pick (ltb p 1) (refuses 5)
    (pick (eqb (get_or cells (p - 1) 0) 0) (gives None)
    (pick (eqb e 0) (refuses 7) (gives (Some (get_or cells (p - 1) 0)))))

-- S = 0 is the end of the program
unfoldable pub exitable : ℕ → Answer (Unit {0})
exitable s = pick (eqb s 0) (refuses 0) (gives tt)

-- RTI needs a routine in progress, and a level to leave
unfoldable pub returnable : ℕ → ℕ → Answer (Unit {0})
returnable block s = pick (eqb block 0) (refuses 16) (pick (eqb s 0) (refuses 16) (gives tt))

unfoldable pub s_after_pop : ℕ → ℕ → ℕ → ℕ
s_after_pop r s copy = pick (eqb s 0) s (pick (leb r copy) (s - 1) s)

unfoldable pub e_after_drop_of : ℕ → ℕ → ℕ → ℕ
e_after_drop_of s e copy = pick (eqb e 0) e (pick (leb s copy) (e - 1) e)

unfoldable pub e_after_pop : ℕ → ℕ → ℕ → ℕ → ℕ
e_after_pop lower s e copy = pick (ltb lower s) (e_after_drop_of lower e copy) e
