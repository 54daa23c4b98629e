-- Calls of feed on a valid state, worked: what is kept and a piece, and what is answered and kept then. This file is worked examples and says numbers.
-- Assumes nothing.
use Rattle.std.specs.Prelude.{Bool, true, false, List, [], ◌∷◌, ◌++◌, ℕ, eqb, take, drop, replicate}
use Rattle.laws.specs.Choice.{pick}
use Rattle.model.specs.Fresh.{fresh}
use Rattle.model.specs.Journal.{header}
use Rattle.model.specs.Pieces.{kept_of, beginning, stopped, to_run, piece_refusal, Fed, AfterCall, ran_on, sent_back}

-- a call with a buffer of so many bytes: what it answers, and what is kept then
pub record PieceSample : Type 0 where
  pub before : List ℕ
  pub piece : List ℕ
  pub allowance : ℕ
  pub last : Bool
  pub room : ℕ
  pub fed : Fed
  pub after : List ℕ

-- the call on a state that is taken for valid; its records are run elsewhere
abbrev pub worked : PieceSample → AfterCall
worked x =
    let n = piece_refusal x.before x.piece x.allowance x.last x.room in
    pick (eqb n 0) (ran_on (record { answers = []; state = fresh }) x.before x.piece (to_run x.before x.piece x.allowance) [])
    (sent_back fresh x.before [] n)

abbrev pub row : List ℕ → List ℕ → ℕ → Bool → ℕ → ℕ → ℕ → ℕ → List ℕ → PieceSample
row before piece allowance last room number records bytes after =
    record {
      before = before;
      piece = piece;
      allowance = allowance;
      last = last;
      room = room;
      fed = record { number = number; records = records; bytes = bytes };
      after = after;
    }

-- the bytes of a record, and those of many
abbrev r : List ℕ
r = 1 ∷ 2 ∷ 3 ∷ 4 ∷ 5 ∷ 6 ∷ 7 ∷ 8 ∷ []

abbrev begun3 : List ℕ
begun3 = kept_of 8 (take 3 r)

abbrev rest3 : List ℕ
rest3 = drop 3 r

abbrev wrong : List ℕ
wrong = take 4 header ++ 9 ∷ drop 5 header

abbrev pub piece_samples : List PieceSample
piece_samples =
    -- the header in two pieces, without an allowance; the second begins a record
    row beginning (take 3 header) 0 false 0 0 0 3 (kept_of 3 [])
    ∷ row (kept_of 3 []) (drop 3 header ++ take 3 r) 0 false 0 0 0 8 begun3
    -- the begun record is completed and run; with no allowance it stays kept, and nothing is taken
    ∷ row begun3 rest3 1 false 8 0 1 5 (kept_of 8 [])
    ∷ row begun3 rest3 0 false 8 0 0 0 begun3
    -- three records at hand, two allowed: a buffer for two is enough, one byte less is not
    ∷ row begun3 (rest3 ++ r ++ r) 2 false 16 0 2 13 (kept_of 8 [])
    ∷ row begun3 (rest3 ++ r ++ r) 2 false 15 15 0 0 begun3
    ∷ row begun3 (rest3 ++ r ++ r) 0 false 0 0 0 0 begun3
    -- all that are at hand, and two bytes behind them
    ∷ row (kept_of 8 (take 7 r)) (8 ∷ take 2 r) 5 false 99 0 1 3 (kept_of 8 (take 2 r))
    ∷ row beginning (header ++ r ++ r) 2 true 16 0 2 24 (kept_of 8 [])
    -- header bytes are taken without an allowance, and not with 15
    ∷ row beginning (header ++ r) 0 false 0 0 0 8 (kept_of 8 [])
    ∷ row beginning (header ++ r) 1 false 7 15 0 0 beginning
    -- a wrong header byte behind right ones, in one piece and in the second; it is remembered
    ∷ row beginning wrong 9 false 99 13 0 0 (kept_of stopped [])
    ∷ row (kept_of 4 []) (9 ∷ []) 9 false 99 13 0 0 (kept_of stopped [])
    ∷ row (kept_of stopped []) header 9 false 99 13 0 0 (kept_of stopped [])
    -- the input ends with a short header; with a begun record; where nothing arrived
    ∷ row beginning (take 7 header) 9 true 99 13 0 0 (kept_of stopped [])
    ∷ row begun3 [] 9 true 0 0 0 0 begun3
    ∷ row beginning [] 9 true 0 13 0 0 (kept_of stopped [])
    -- counts out of range, each by itself; bytes behind a begun record are made 0
    ∷ row (9 ∷ replicate 8 0) [] 0 false 0 13 0 0 (255 ∷ replicate 8 0)
    ∷ row (8 ∷ replicate 8 8) [] 0 false 0 13 0 0 (255 ∷ replicate 8 8)
    ∷ row (8 ∷ 1 ∷ replicate 7 5) [] 0 false 0 0 0 0 (kept_of 8 (5 ∷ []))
    ∷ []
