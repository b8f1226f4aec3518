-- The list of a block's replicas.
use Rattle.std.specs.Prelude.{ℕ, ◌==◌, ◌&&◌, List, [], ◌∷◌, ◌++◌, Option, Some, None, option_map, Result, Ok, Err, if◌then◌else◌}
use Rattle.std.specs.Option.{option_map_or}
use Rattle.fsck_text.specs.Cuts.{Text, onto_cut, cut_at, is_empty}
use Rattle.fsck_text.specs.Marks.{mark_of}
use Rattle.fsck_text.specs.Places.{place_of}
use Rattle.fsck_text.specs.Wrongs.{wrong, shown}
use Rattle.fsck_text.specs.declared.mark.Mark.{Mark}
use Rattle.fsck_text.specs.declared.mark.Mark.TheVariants as mark
use Rattle.fsck_text.specs.declared.place.Place.{Place}
use Rattle.fsck_text.specs.declared.list.ListedReplica.{ListedReplica}
use Rattle.fsck_text.specs.declared.reason.Reason.TheVariants as reason
use Rattle.fsck_text.specs.declared.reason.Wrong.{Wrong}

-- the text before the first comma, 44, with a space, 32, after it, and the text after that space
abbrev pub cut_item : Text → Option (Text × Text)
cut_item [] = None
cut_item (b ∷ []) = None
cut_item (b ∷ c ∷ bs) = if b == 44 && c == 32 then Some ([], bs) else option_map (onto_cut b) (cut_item (c ∷ bs))

-- an item with one more byte at its start
abbrev pub onto_first : ℕ → List Text → List Text
onto_first b [] = (b ∷ []) ∷ []
onto_first b (item ∷ items) = (b ∷ item) ∷ items

-- the items of a list, separated by a comma and a space
abbrev pub items_of : Text → List Text
items_of [] = [] ∷ []
items_of (b ∷ []) = (b ∷ []) ∷ []
items_of (b ∷ c ∷ bs) = if b == 44 && c == 32 then [] ∷ items_of bs else onto_first b (items_of (c ∷ bs))

abbrev pub listed_by : Text → Option Place → Option Mark → Result ListedReplica Wrong
listed_by item (Some place) (Some mark) = Ok (record { place = place; mark = mark })
listed_by item None mark = Err (wrong reason.NotAPlace item)
listed_by item (Some place) None = Err (wrong reason.NotAMark item)

abbrev pub listed_with : Text → Text → Option Mark → Result ListedReplica Wrong
listed_with item place mark = listed_by item (place_of place) mark

-- a replica from its item: its place, and its mark after an opening parenthesis, 40, if there is
-- one
abbrev pub listed_of : Text → Result ListedReplica Wrong
listed_of item = option_map_or (λ p. listed_with item p.0 (mark_of p.1)) (cut_at 40 item) (listed_with item item (Some mark.Absent))

-- with one more replica, if it is understood
abbrev pub pushed : List ListedReplica → Result ListedReplica Wrong → Result (List ListedReplica) Wrong
pushed list (Ok one) = Ok (list ++ one ∷ [])
pushed list (Err w) = Err w

-- the replica and then the others, if all are understood; else the fault of the first that is not
abbrev pub onto_listed : Result ListedReplica Wrong → Result (List ListedReplica) Wrong → Result (List ListedReplica) Wrong
onto_listed (Err w) rest = Err w
onto_listed (Ok one) (Err w) = Err w
onto_listed (Ok one) (Ok rest) = Ok (one ∷ rest)

abbrev pub all_listed : List Text → Result (List ListedReplica) Wrong
all_listed [] = Ok []
all_listed (item ∷ items) = onto_listed (listed_of item) (all_listed items)

-- the replicas of one item or more
abbrev pub listed_replicas : Text → Result (List ListedReplica) Wrong
listed_replicas text = all_listed (items_of text)

-- the fault of an item of a list; the whole list is quoted for an empty item
abbrev pub within : Text → Wrong → Wrong
within text w = wrong w.why (shown w.word text)

abbrev pub all_within : Text → Result (List ListedReplica) Wrong → Result (List ListedReplica) Wrong
all_within text (Ok listed) = Ok listed
all_within text (Err w) = Err (within text w)

-- the replicas of a list, in order; none from no text
abbrev pub list_of : Text → Result (List ListedReplica) Wrong
list_of text = if is_empty text then Ok [] else all_within text (listed_replicas text)
