-- An image that was filed and brought back (document 02, C-16).
use Rattle.std.specs.Prelude.{Bool, ◌&&◌, List, ℕ, eqb, leb, length}
use Rattle.calls.specs.Verdicts.{cause_of}
use Rattle.filing.specs.Calls.{file_verdict}

-- whether no cause turns the writer away, and the last table has room for the image
unfoldable pub comes_back : (image : List ℕ) (room number_room back_room : ℕ) → Bool
comes_back image room number_room back_room = eqb (cause_of (file_verdict image room number_room)) 0 && leb (length image) back_room
