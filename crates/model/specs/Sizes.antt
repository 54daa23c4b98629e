-- docs/HOST.md, "Sizes and state": each size by a name of its own. No other file spells one.
-- Assumes nothing.
use Rattle.std.specs.Prelude.{Bool, ◌&&◌, ◌||◌, not, ℕ, ◌+◌, ◌*◌, ◌-◌, ◌/◌, ◌%◌, ◌^◌, leb, eqb}

abbrev pub guests : ℕ
guests = 4

-- physical addresses of a guest
abbrev pub physicals : ℕ
physicals = 16

-- machine pages
abbrev pub pages : ℕ
pages = 64

-- virtual addresses
abbrev pub addresses : ℕ
addresses = 64

-- Virtual 48 to 63 belong to the host. The stealth address is 7.
abbrev pub first_reserved : ℕ
first_reserved = 48

abbrev pub stealth : ℕ
stealth = 7

-- the cache, and its lines numbered set by set
abbrev pub sets : ℕ
sets = 8

abbrev pub ways : ℕ
ways = 2

abbrev pub lines : ℕ
lines = sets * ways

-- the translation buffer
abbrev pub slots : ℕ
slots = 8

-- the host's pages stand after the guests' first tables
abbrev pub host_pages : ℕ
host_pages = 4

abbrev pub first_host_page : ℕ
first_host_page = guests

abbrev pub first_free_page : ℕ
first_free_page = first_host_page + host_pages

-- a mark is 0 or 1, and so is the kind that a pin asks for
abbrev pub marks_bound : ℕ
marks_bound = 2

abbrev pub pin_kinds : ℕ
pin_kinds = 2

-- a write policy is one of these
abbrev pub policies : ℕ
policies = 2

-- a value has 32 bits, a byte 8
abbrev pub value_bound : ℕ
value_bound = 2 ^ 32

abbrev pub byte_bound : ℕ
byte_bound = 2 ^ 8

-- bytes of a value, and of the map of free pages, a bit for each
abbrev pub value_bytes : ℕ
value_bytes = 4

abbrev pub map_bytes : ℕ
map_bytes = pages / 8

-- kinds of records; calls, with the call 'none' counted
abbrev pub kinds : ℕ
kinds = 16

abbrev pub calls : ℕ
calls = 6

-- the largest range of a call's first argument, and of its second
abbrev pub call_a_bound : ℕ
call_a_bound = addresses

abbrev pub call_b_bound : ℕ
call_b_bound = physicals

-- bytes of a record, of its answer and of a journal's header; records of a journal
abbrev pub record_bytes : ℕ
record_bytes = 8

abbrev pub answer_bytes : ℕ
answer_bytes = 8

-- the byte of an answer at which its value starts
abbrev pub answer_value_at : ℕ
answer_value_at = 4

abbrev pub header_bytes : ℕ
header_bytes = 8

abbrev pub record_limit : ℕ
record_limit = 4096

-- what is kept from one piece of a journal to the next: two counts, and the most bytes that a begun record has
abbrev pub count_bytes : ℕ
count_bytes = 2

abbrev pub begun_most : ℕ
begun_most = record_bytes - 1

abbrev pub kept_bytes : ℕ
kept_bytes = count_bytes + begun_most

-- bytes of an image's mark, and of all that stands before its fields: mark and version
abbrev pub mark_bytes : ℕ
mark_bytes = 3

abbrev pub image_head_bytes : ℕ
image_head_bytes = mark_bytes + 2

-- address v belongs to set v mod 8 and to slot v mod 8
abbrev pub set_of : ℕ → ℕ
set_of va = va % sets

abbrev pub slot_of : ℕ → ℕ
slot_of va = va % slots

abbrev pub stealth_set : ℕ
stealth_set = set_of stealth

-- Reserved: 48 or more, or leaving 7 on division by 8 without being 7.
abbrev pub reserved : ℕ → Bool
reserved va = leb first_reserved va || (eqb (set_of va) stealth_set && not (eqb va stealth))
