-- Lines with their texts in ASCII: two rules that hold, and a place of each row of docs/RULES.md.
-- Assumes nothing.
use Rattle.std.specs.Prelude.{List, [], ◌∷◌, ℕ}
use Rattle.words.specs.Words.{holds_line, broken_line}

pub record Sample : Type 0 where
  pub line : List ℕ
  pub text : List ℕ

abbrev sample : List ℕ → List ℕ → Sample
sample l t = record { line = l; text = t }

abbrev pub samples : List Sample
samples =
    sample (holds_line 1) (49 ∷ 32 ∷ 104 ∷ 111 ∷ 108 ∷ 100 ∷ 115 ∷ 10 ∷ [])  -- 1 holds
    ∷ sample (holds_line 11) (49 ∷ 49 ∷ 32 ∷ 104 ∷ 111 ∷ 108 ∷ 100 ∷ 115 ∷ 10 ∷ [])  -- 11 holds
    ∷ sample (broken_line 1 0 2) (49 ∷ 32 ∷ 98 ∷ 114 ∷ 111 ∷ 107 ∷ 101 ∷ 110 ∷ 32 ∷ 103 ∷ 117 ∷ 101 ∷ 115 ∷ 116 ∷ 32 ∷ 50 ∷ 10 ∷ [])  -- 1 broken guest 2
    ∷ sample (broken_line 2 0 63) (50 ∷ 32 ∷ 98 ∷ 114 ∷ 111 ∷ 107 ∷ 101 ∷ 110 ∷ 32 ∷ 112 ∷ 97 ∷ 103 ∷ 101 ∷ 32 ∷ 54 ∷ 51 ∷ 10 ∷ [])  -- 2 broken page 63
    ∷ sample (broken_line 3 0 63) (51 ∷ 32 ∷ 98 ∷ 114 ∷ 111 ∷ 107 ∷ 101 ∷ 110 ∷ 32 ∷ 103 ∷ 117 ∷ 101 ∷ 115 ∷ 116 ∷ 32 ∷ 51 ∷ 32 ∷ 112 ∷ 104 ∷ 121 ∷ 115 ∷ 105 ∷ 99 ∷ 97 ∷ 108 ∷ 32 ∷ 49 ∷ 53 ∷ 10 ∷ [])  -- 3 broken guest 3 physical 15
    ∷ sample (broken_line 3 1 10) (51 ∷ 32 ∷ 98 ∷ 114 ∷ 111 ∷ 107 ∷ 101 ∷ 110 ∷ 32 ∷ 112 ∷ 97 ∷ 103 ∷ 101 ∷ 32 ∷ 49 ∷ 48 ∷ 10 ∷ [])  -- 3 broken page 10
    ∷ sample (broken_line 4 0 4095) (52 ∷ 32 ∷ 98 ∷ 114 ∷ 111 ∷ 107 ∷ 101 ∷ 110 ∷ 32 ∷ 112 ∷ 97 ∷ 103 ∷ 101 ∷ 32 ∷ 54 ∷ 51 ∷ 32 ∷ 97 ∷ 100 ∷ 100 ∷ 114 ∷ 101 ∷ 115 ∷ 115 ∷ 32 ∷ 54 ∷ 51 ∷ 10 ∷ [])  -- 4 broken page 63 address 63
    ∷ sample (broken_line 5 0 0) (53 ∷ 32 ∷ 98 ∷ 114 ∷ 111 ∷ 107 ∷ 101 ∷ 110 ∷ 32 ∷ 103 ∷ 117 ∷ 101 ∷ 115 ∷ 116 ∷ 32 ∷ 48 ∷ 10 ∷ [])  -- 5 broken guest 0
    ∷ sample (broken_line 6 0 9) (54 ∷ 32 ∷ 98 ∷ 114 ∷ 111 ∷ 107 ∷ 101 ∷ 110 ∷ 32 ∷ 112 ∷ 97 ∷ 103 ∷ 101 ∷ 32 ∷ 57 ∷ 10 ∷ [])  -- 6 broken page 9
    ∷ sample (broken_line 7 0 15) (55 ∷ 32 ∷ 98 ∷ 114 ∷ 111 ∷ 107 ∷ 101 ∷ 110 ∷ 32 ∷ 115 ∷ 101 ∷ 116 ∷ 32 ∷ 55 ∷ 32 ∷ 119 ∷ 97 ∷ 121 ∷ 32 ∷ 49 ∷ 10 ∷ [])  -- 7 broken set 7 way 1
    ∷ sample (broken_line 8 0 7) (56 ∷ 32 ∷ 98 ∷ 114 ∷ 111 ∷ 107 ∷ 101 ∷ 110 ∷ 32 ∷ 115 ∷ 108 ∷ 111 ∷ 116 ∷ 32 ∷ 55 ∷ 10 ∷ [])  -- 8 broken slot 7
    ∷ sample (broken_line 9 0 1) (57 ∷ 32 ∷ 98 ∷ 114 ∷ 111 ∷ 107 ∷ 101 ∷ 110 ∷ 32 ∷ 115 ∷ 101 ∷ 116 ∷ 32 ∷ 55 ∷ 32 ∷ 119 ∷ 97 ∷ 121 ∷ 32 ∷ 49 ∷ 10 ∷ [])  -- 9 broken set 7 way 1
    ∷ sample (broken_line 9 1 0) (57 ∷ 32 ∷ 98 ∷ 114 ∷ 111 ∷ 107 ∷ 101 ∷ 110 ∷ 32 ∷ 115 ∷ 101 ∷ 116 ∷ 32 ∷ 55 ∷ 32 ∷ 104 ∷ 105 ∷ 115 ∷ 116 ∷ 111 ∷ 114 ∷ 121 ∷ 10 ∷ [])  -- 9 broken set 7 history
    ∷ sample (broken_line 10 3 4095) (49 ∷ 48 ∷ 32 ∷ 98 ∷ 114 ∷ 111 ∷ 107 ∷ 101 ∷ 110 ∷ 32 ∷ 101 ∷ 110 ∷ 116 ∷ 114 ∷ 121 ∷ 32 ∷ 52 ∷ 48 ∷ 57 ∷ 53 ∷ 10 ∷ [])  -- 10 broken entry 4095
    ∷ sample (broken_line 10 8 3) (49 ∷ 48 ∷ 32 ∷ 98 ∷ 114 ∷ 111 ∷ 107 ∷ 101 ∷ 110 ∷ 32 ∷ 99 ∷ 97 ∷ 108 ∷ 108 ∷ 65 ∷ 32 ∷ 51 ∷ 10 ∷ [])  -- 10 broken callA 3
    ∷ sample (broken_line 10 19 0) (49 ∷ 48 ∷ 32 ∷ 98 ∷ 114 ∷ 111 ∷ 107 ∷ 101 ∷ 110 ∷ 32 ∷ 112 ∷ 111 ∷ 108 ∷ 105 ∷ 99 ∷ 121 ∷ 32 ∷ 48 ∷ 10 ∷ [])  -- 10 broken policy 0
    ∷ sample (broken_line 10 20 2) (49 ∷ 48 ∷ 32 ∷ 98 ∷ 114 ∷ 111 ∷ 107 ∷ 101 ∷ 110 ∷ 32 ∷ 103 ∷ 117 ∷ 101 ∷ 115 ∷ 116 ∷ 32 ∷ 50 ∷ 10 ∷ [])  -- 10 broken guest 2
    ∷ sample (broken_line 10 21 5) (49 ∷ 48 ∷ 32 ∷ 98 ∷ 114 ∷ 111 ∷ 107 ∷ 101 ∷ 110 ∷ 32 ∷ 115 ∷ 101 ∷ 116 ∷ 32 ∷ 50 ∷ 32 ∷ 119 ∷ 97 ∷ 121 ∷ 32 ∷ 49 ∷ 10 ∷ [])  -- 10 broken set 2 way 1
    ∷ sample (broken_line 10 22 6) (49 ∷ 48 ∷ 32 ∷ 98 ∷ 114 ∷ 111 ∷ 107 ∷ 101 ∷ 110 ∷ 32 ∷ 115 ∷ 108 ∷ 111 ∷ 116 ∷ 32 ∷ 54 ∷ 10 ∷ [])  -- 10 broken slot 6
    ∷ sample (broken_line 11 0 14) (49 ∷ 49 ∷ 32 ∷ 98 ∷ 114 ∷ 111 ∷ 107 ∷ 101 ∷ 110 ∷ 32 ∷ 115 ∷ 101 ∷ 116 ∷ 32 ∷ 55 ∷ 32 ∷ 119 ∷ 97 ∷ 121 ∷ 32 ∷ 48 ∷ 10 ∷ [])  -- 11 broken set 7 way 0
    ∷ []
