-- docs/HOST.md, "Checking": the lines that are printed of the rules, in ASCII, with the words of docs/RULES.md for a place.
-- Assumes nothing.
use Rattle.std.specs.Prelude.{List, [], ◌∷◌, ◌++◌, ℕ, ◌/◌, ◌%◌, get_or}
use Rattle.model.specs.Sizes.{physicals, addresses, ways, stealth_set}
use Rattle.print.specs.Text.{decimal_of}

-- ---- words

-- "guest ", "page ", "set ", "slot "
abbrev pub guest_word : List ℕ
guest_word = 103 ∷ 117 ∷ 101 ∷ 115 ∷ 116 ∷ 32 ∷ []

abbrev pub page_word : List ℕ
page_word = 112 ∷ 97 ∷ 103 ∷ 101 ∷ 32 ∷ []

abbrev pub set_word : List ℕ
set_word = 115 ∷ 101 ∷ 116 ∷ 32 ∷ []

abbrev pub slot_word : List ℕ
slot_word = 115 ∷ 108 ∷ 111 ∷ 116 ∷ 32 ∷ []

-- " physical ", " address ", " way ", " history"
abbrev pub physical_word : List ℕ
physical_word = 32 ∷ 112 ∷ 104 ∷ 121 ∷ 115 ∷ 105 ∷ 99 ∷ 97 ∷ 108 ∷ 32 ∷ []

abbrev pub address_word : List ℕ
address_word = 32 ∷ 97 ∷ 100 ∷ 100 ∷ 114 ∷ 101 ∷ 115 ∷ 115 ∷ 32 ∷ []

abbrev pub way_word : List ℕ
way_word = 32 ∷ 119 ∷ 97 ∷ 121 ∷ 32 ∷ []

abbrev pub history_word : List ℕ
history_word = 32 ∷ 104 ∷ 105 ∷ 115 ∷ 116 ∷ 111 ∷ 114 ∷ 121 ∷ []

-- " holds" and " broken ", behind a rule's number
abbrev pub holds_word : List ℕ
holds_word = 32 ∷ 104 ∷ 111 ∷ 108 ∷ 100 ∷ 115 ∷ []

abbrev pub broken_word : List ℕ
broken_word = 32 ∷ 98 ∷ 114 ∷ 111 ∷ 107 ∷ 101 ∷ 110 ∷ 32 ∷ []

abbrev pub space : ℕ
space = 32

abbrev pub line_end : ℕ
line_end = 10

-- the fields' names, in the order of docs/STATE.md
abbrev pub field_names : List (List ℕ)
field_names =
    (111 ∷ 119 ∷ 110 ∷ 101 ∷ 114 ∷ [])  -- owner
    ∷ (107 ∷ 105 ∷ 110 ∷ 100 ∷ [])  -- kind
    ∷ (99 ∷ 97 ∷ 99 ∷ 104 ∷ 101 ∷ 97 ∷ 98 ∷ 108 ∷ 101 ∷ [])  -- cacheable
    ∷ (101 ∷ 110 ∷ 116 ∷ 114 ∷ 121 ∷ [])  -- entry
    ∷ (112 ∷ 104 ∷ 121 ∷ 115 ∷ 105 ∷ 99 ∷ 97 ∷ 108 ∷ [])  -- physical
    ∷ (102 ∷ 114 ∷ 101 ∷ 101 ∷ [])  -- free
    ∷ (99 ∷ 117 ∷ 114 ∷ 114 ∷ 101 ∷ 110 ∷ 116 ∷ [])  -- current
    ∷ (99 ∷ 97 ∷ 108 ∷ 108 ∷ [])  -- call
    ∷ (99 ∷ 97 ∷ 108 ∷ 108 ∷ 65 ∷ [])  -- callA
    ∷ (99 ∷ 97 ∷ 108 ∷ 108 ∷ 66 ∷ [])  -- callB
    ∷ (97 ∷ 99 ∷ 116 ∷ 105 ∷ 118 ∷ 101 ∷ [])  -- active
    ∷ (109 ∷ 111 ∷ 100 ∷ 101 ∷ [])  -- mode
    ∷ (108 ∷ 105 ∷ 110 ∷ 101 ∷ 65 ∷ 100 ∷ 100 ∷ 114 ∷ 101 ∷ 115 ∷ 115 ∷ [])  -- lineAddress
    ∷ (108 ∷ 105 ∷ 110 ∷ 101 ∷ 80 ∷ 97 ∷ 103 ∷ 101 ∷ [])  -- linePage
    ∷ (104 ∷ 105 ∷ 115 ∷ 116 ∷ 111 ∷ 114 ∷ 121 ∷ [])  -- history
    ∷ (115 ∷ 108 ∷ 111 ∷ 116 ∷ 65 ∷ 100 ∷ 100 ∷ 114 ∷ 101 ∷ 115 ∷ 115 ∷ [])  -- slotAddress
    ∷ (115 ∷ 108 ∷ 111 ∷ 116 ∷ 80 ∷ 97 ∷ 103 ∷ 101 ∷ [])  -- slotPage
    ∷ (109 ∷ 101 ∷ 109 ∷ 111 ∷ 114 ∷ 121 ∷ [])  -- memory
    ∷ (108 ∷ 105 ∷ 110 ∷ 101 ∷ [])  -- line
    ∷ (112 ∷ 111 ∷ 108 ∷ 105 ∷ 99 ∷ 121 ∷ [])  -- policy
    ∷ []

-- ---- places

-- what the places of a part are; a number is of a field
pub data Form : Type 0 where
  a_guest : Form
  a_page : Form
  a_physical : Form
  an_entry : Form
  a_way : Form
  a_slot : Form
  a_stealth_way : Form
  the_stealth_history : Form
  a_number : ℕ → Form
  no_form : Form

-- by the rule and the part: docs/RULES.md, row by row
abbrev pub forms : List (List Form)
forms =
    []
    ∷ (a_guest ∷ [])
    ∷ (a_page ∷ [])
    ∷ (a_physical ∷ a_page ∷ [])
    ∷ (an_entry ∷ [])
    ∷ (a_guest ∷ [])
    ∷ (a_page ∷ [])
    ∷ (a_way ∷ [])
    ∷ (a_slot ∷ [])
    ∷ (a_stealth_way ∷ the_stealth_history ∷ [])
    ∷ (a_number 0 ∷ a_number 1 ∷ a_number 2 ∷ a_number 3 ∷ a_number 4 ∷ a_number 5 ∷ a_number 6 ∷ a_number 7 ∷ a_number 8 ∷ a_number 9 ∷ a_number 10 ∷ a_number 11
    ∷ a_number 12
    ∷ a_number 13
    ∷ a_number 14
    ∷ a_number 15
    ∷ a_number 16
    ∷ a_number 17
    ∷ a_number 18
    ∷ a_number 19
    ∷ a_guest
    ∷ a_way
    ∷ a_slot
    ∷ [])
    ∷ (a_way ∷ [])
    ∷ []

unfoldable pub form_of : ℕ → ℕ → Form
form_of n k = get_or (get_or forms n []) k no_form

unfoldable pub words_of : Form → ℕ → List ℕ
words_of a_guest i = guest_word ++ decimal_of i
words_of a_page i = page_word ++ decimal_of i
words_of a_physical i = guest_word ++ decimal_of (i / physicals) ++ physical_word ++ decimal_of (i % physicals)
words_of an_entry i = page_word ++ decimal_of (i / addresses) ++ address_word ++ decimal_of (i % addresses)
words_of a_way i = set_word ++ decimal_of (i / ways) ++ way_word ++ decimal_of (i % ways)
words_of a_slot i = slot_word ++ decimal_of i
words_of a_stealth_way i = set_word ++ decimal_of stealth_set ++ way_word ++ decimal_of i
words_of the_stealth_history i = set_word ++ decimal_of stealth_set ++ history_word
words_of (a_number f) i = get_or field_names f [] ++ space ∷ decimal_of i
words_of no_form i = []

-- ---- lines

-- rule n holds; it is broken, first at place i of part k
abbrev pub holds_line : ℕ → List ℕ
holds_line n = decimal_of n ++ holds_word ++ line_end ∷ []

abbrev pub broken_line : ℕ → ℕ → ℕ → List ℕ
broken_line n k i = decimal_of n ++ broken_word ++ words_of (form_of n k) i ++ line_end ∷ []

-- the most bytes of a line, whatever bytes rule and part are and whatever the place is in 16 bits
abbrev pub longest_line : ℕ
longest_line = 32
