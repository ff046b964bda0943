-- The names of the kinds, in the order of their numbers.
use Rattle.std.specs.Prelude.{ℕ, List, [], ◌∷◌, codes}
use Rattle.operands.specs.declared.Sort.{Sort}
use Rattle.operands.specs.declared.Sort.TheVariants.{Expressions, Records}

abbrev pub expression_names : List (List ℕ)
expression_names =
    codes "Compose"
    ∷ codes "Access"
    ∷ codes "AccessIndex"
    ∷ codes "Splat"
    ∷ codes "Swizzle"
    ∷ codes "Load"
    ∷ codes "ImageSample"
    ∷ codes "ImageLoad"
    ∷ codes "ImageQuery"
    ∷ codes "Unary"
    ∷ codes "Binary"
    ∷ codes "Select"
    ∷ codes "Derivative"
    ∷ codes "Relational"
    ∷ codes "Math"
    ∷ codes "As"
    ∷ codes "ArrayLength"
    ∷ codes "RayQueryGetIntersection"
    ∷ codes "Literal"
    ∷ codes "FunctionArgument"
    ∷ codes "GlobalVariable"
    ∷ codes "LocalVariable"
    ∷ codes "CallResult"
    ∷ codes "RayQueryProceedResult"
    ∷ codes "Constant"
    ∷ codes "Override"
    ∷ codes "ZeroValue"
    ∷ codes "AtomicResult"
    ∷ codes "WorkGroupUniformLoadResult"
    ∷ codes "SubgroupBallotResult"
    ∷ codes "SubgroupOperationResult"
    ∷ codes "RayQueryVertexPositions"
    ∷ codes "CooperativeLoad"
    ∷ codes "CooperativeMultiplyAdd"
    ∷ []

abbrev pub record_names : List (List ℕ)
record_names =
    codes "Emit"
    ∷ codes "Block"
    ∷ codes "If"
    ∷ codes "Switch"
    ∷ codes "Loop"
    ∷ codes "Return"
    ∷ codes "Store"
    ∷ codes "ImageStore"
    ∷ codes "Atomic"
    ∷ codes "ImageAtomic"
    ∷ codes "WorkGroupUniformLoad"
    ∷ codes "SubgroupBallot"
    ∷ codes "SubgroupCollectiveOperation"
    ∷ codes "SubgroupGather"
    ∷ codes "Call"
    ∷ codes "RayQuery"
    ∷ codes "CooperativeStore"
    ∷ codes "RayPipelineFunction"
    ∷ codes "Break"
    ∷ codes "Continue"
    ∷ codes "Kill"
    ∷ codes "ControlBarrier"
    ∷ codes "MemoryBarrier"
    ∷ codes "Open"
    ∷ codes "Close"
    ∷ []

abbrev pub names_of : Sort → List (List ℕ)
names_of Expressions = expression_names
names_of Records = record_names
