-- Which operands each kind has, and how many blocks stand after a record.
use Rattle.std.specs.Prelude.{ℕ, ◌-◌, Bool, true, false, cond, List, [], ◌∷◌, ◌++◌, length, replicate, Some, None, Option, ◌==◌, nat_le}
use Rattle.std.specs.List.{slice_get}
use Rattle.std.specs.Option.{option_map}
use Rattle.kinds.specs.declared.Slot.{Slot}
use Rattle.kinds.specs.declared.Slot.TheVariants.{Needed, Optional, Result, OptionalResult}
use Rattle.kinds.specs.declared.Slots.{Slots}
use Rattle.kinds.specs.declared.After.{After}
use Rattle.kinds.specs.declared.After.TheVariants.{Blocks, Cases}
use Rattle.kinds.specs.declared.RecordKind.{RecordKind}

-- the operands of a kind: any number of needed ones if `more`, and then one for each slot
pub record Row : Type 0 where
  pub more : Bool
  pub slots : List Slot

pub record RecordRow : Type 0 where
  pub slots : Row
  pub after : After

-- these slots, after any number of needed operands if the first argument says so
abbrev pub row : Bool → List Slot → Row
row b ss = record { more = b; slots = ss }

abbrev pub just : List Slot → Row
just = row false

-- so many needed operands, and so many that may be absent after them
abbrev pub of : ℕ → ℕ → Row
of n m = just (replicate n Needed ++ replicate m Optional)

-- a record with these operands and so many blocks after it
abbrev pub then : Row → ℕ → RecordRow
then s n = record { slots = s; after = Blocks n }

abbrev pub expressions : List Row
expressions =
    row true []  -- 0 Compose
    ∷ of 2 0  -- 1 Access
    ∷ of 1 0  -- 2 AccessIndex
    ∷ of 1 0  -- 3 Splat
    ∷ of 1 0  -- 4 Swizzle
    ∷ of 1 0  -- 5 Load
    ∷ of 3 5  -- 6 ImageSample
    ∷ of 2 3  -- 7 ImageLoad
    ∷ of 1 1  -- 8 ImageQuery
    ∷ of 1 0  -- 9 Unary
    ∷ of 2 0  -- 10 Binary
    ∷ of 3 0  -- 11 Select
    ∷ of 1 0  -- 12 Derivative
    ∷ of 1 0  -- 13 Relational
    ∷ of 1 3  -- 14 Math
    ∷ of 1 0  -- 15 As
    ∷ of 1 0  -- 16 ArrayLength
    ∷ of 1 0  -- 17 RayQueryGetIntersection
    ∷ of 0 0  -- 18 Literal
    ∷ of 0 0  -- 19 FunctionArgument
    ∷ of 0 0  -- 20 GlobalVariable
    ∷ of 0 0  -- 21 LocalVariable
    ∷ of 0 0  -- 22 CallResult
    ∷ of 0 0  -- 23 RayQueryProceedResult
    ∷ of 0 0  -- 24 Constant
    ∷ of 0 0  -- 25 Override
    ∷ of 0 0  -- 26 ZeroValue
    ∷ of 0 0  -- 27 AtomicResult
    ∷ of 0 0  -- 28 WorkGroupUniformLoadResult
    ∷ of 0 0  -- 29 SubgroupBallotResult
    ∷ of 0 0  -- 30 SubgroupOperationResult
    ∷ of 1 0  -- 31 RayQueryVertexPositions
    ∷ of 2 0  -- 32 CooperativeLoad
    ∷ of 3 0  -- 33 CooperativeMultiplyAdd
    ∷ []

abbrev pub records : List RecordRow
records =
    then (of 0 0) 0  -- 0 Emit
    ∷ then (of 0 0) 1  -- 1 Block
    ∷ then (of 1 0) 2  -- 2 If
    ∷ record { slots = of 1 0; after = Cases }  -- 3 Switch
    ∷ then (of 0 1) 2  -- 4 Loop
    ∷ then (of 0 1) 0  -- 5 Return
    ∷ then (of 2 0) 0  -- 6 Store
    ∷ then (just (Needed ∷ Needed ∷ Optional ∷ Needed ∷ [])) 0  -- 7 ImageStore
    ∷ then (just (Needed ∷ Needed ∷ OptionalResult ∷ Optional ∷ [])) 0  -- 8 Atomic
    ∷ then (just (Needed ∷ Needed ∷ Optional ∷ Needed ∷ Optional ∷ [])) 0  -- 9 ImageAtomic
    ∷ then (just (Needed ∷ Result ∷ [])) 0  -- 10 WorkGroupUniformLoad
    ∷ then (just (Optional ∷ Result ∷ [])) 0  -- 11 SubgroupBallot
    ∷ then (just (Needed ∷ Result ∷ [])) 0  -- 12 SubgroupCollectiveOperation
    ∷ then (just (Optional ∷ Needed ∷ Result ∷ [])) 0  -- 13 SubgroupGather
    ∷ then (row true (OptionalResult ∷ [])) 0  -- 14 Call
    ∷ then (just (Needed ∷ Optional ∷ Optional ∷ OptionalResult ∷ Optional ∷ [])) 0  -- 15 RayQuery
    ∷ then (of 3 0) 0  -- 16 CooperativeStore
    ∷ then (of 3 0) 0  -- 17 RayPipelineFunction
    ∷ then (of 0 0) 0  -- 18 Break
    ∷ then (of 0 0) 0  -- 19 Continue
    ∷ then (of 0 0) 0  -- 20 Kill
    ∷ then (of 0 0) 0  -- 21 ControlBarrier
    ∷ then (of 0 0) 0  -- 22 MemoryBarrier
    ∷ then (of 0 0) 0  -- 23 Open
    ∷ then (of 0 0) 0  -- 24 Close
    ∷ []

-- ---- as the program holds them

abbrev pub row_of : Slots → Row
row_of s = record { more = s.more; slots = s.slots.now }

abbrev pub record_of : RecordKind → RecordRow
record_of r = record { slots = row_of r.slots; after = r.after }

-- the operands of the record of a number, and what stands after it
abbrev pub slots_in_records : ℕ → Option Row
slots_in_records n = option_map (λ (r : RecordRow). r.slots) (slice_get records n)

abbrev pub after_in_records : ℕ → Option After
after_in_records n = option_map (λ (r : RecordRow). r.after) (slice_get records n)

-- ---- a run of operands

abbrev pub count : Row → ℕ
count r = length r.slots

-- whether a run may have so many operands
abbrev pub admitted : Row → ℕ → Bool
admitted r n = cond r.more (nat_le (count r) n) (count r == n)

-- how many of so many operands stand before those that have a slot
abbrev pub front_length_of : Row → ℕ → ℕ
front_length_of r n = n - count r

-- the slot at j, counted from the first operand that has one
abbrev pub slot_at : Row → ℕ → Option Slot
slot_at r j = slice_get r.slots j

-- an operand there may not be absent
abbrev pub needed_slot : Slot → Bool
needed_slot Needed = true
needed_slot Optional = false
needed_slot Result = true
needed_slot OptionalResult = false

abbrev pub needed_where : Option Slot → Bool
needed_where None = false
needed_where (Some s) = needed_slot s

-- slot j is there, and its operand may not be absent
abbrev pub needed_slot_at : Row → ℕ → Bool
needed_slot_at r j = needed_where (slot_at r j)

-- an operand there is named, and not used
abbrev pub result_slot : Slot → Bool
result_slot Needed = false
result_slot Optional = false
result_slot Result = true
result_slot OptionalResult = true

-- the blocks after a record, given its word 0
abbrev pub blocks_of : After → ℕ → ℕ
blocks_of (Blocks n) word = n
blocks_of Cases word = word
