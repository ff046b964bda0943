-- The number of each kind.
use Rattle.std.specs.Prelude.{◌≡◌, ℕ, ◌≤◌, Result, MatchResult}
use Rattle.kinds.specs.declared.UnknownKind.{UnknownKind}
use Rattle.kinds.specs.declared.expressions.Expression.{Expression}
use Rattle.kinds.specs.declared.expressions.Expression.TheVariants.{Compose, Access, AccessIndex, Splat, Swizzle, Load, ImageSample, ImageLoad, ImageQuery, Unary, Binary, Select, Derivative, Relational, Math, As, ArrayLength, RayQueryGetIntersection, Literal, FunctionArgument, GlobalVariable, LocalVariable, CallResult, RayQueryProceedResult, Constant, Override, ZeroValue, AtomicResult, WorkGroupUniformLoadResult, SubgroupBallotResult, SubgroupOperationResult, RayQueryVertexPositions, CooperativeLoad, CooperativeMultiplyAdd}
use Rattle.kinds.specs.declared.statements.Statement.{Statement}
use Rattle.kinds.specs.declared.statements.Statement.TheVariants.{Emit, Block, If, Switch, Loop, Return, Store, ImageStore, Atomic, ImageAtomic, WorkGroupUniformLoad, SubgroupBallot, SubgroupCollectiveOperation, SubgroupGather, Call, RayQuery, CooperativeStore, RayPipelineFunction, Break, Continue, Kill, ControlBarrier, MemoryBarrier, Open, Close}

abbrev pub expression_number : Expression → ℕ
expression_number Compose = 0
expression_number Access = 1
expression_number AccessIndex = 2
expression_number Splat = 3
expression_number Swizzle = 4
expression_number Load = 5
expression_number ImageSample = 6
expression_number ImageLoad = 7
expression_number ImageQuery = 8
expression_number Unary = 9
expression_number Binary = 10
expression_number Select = 11
expression_number Derivative = 12
expression_number Relational = 13
expression_number Math = 14
expression_number As = 15
expression_number ArrayLength = 16
expression_number RayQueryGetIntersection = 17
expression_number Literal = 18
expression_number FunctionArgument = 19
expression_number GlobalVariable = 20
expression_number LocalVariable = 21
expression_number CallResult = 22
expression_number RayQueryProceedResult = 23
expression_number Constant = 24
expression_number Override = 25
expression_number ZeroValue = 26
expression_number AtomicResult = 27
expression_number WorkGroupUniformLoadResult = 28
expression_number SubgroupBallotResult = 29
expression_number SubgroupOperationResult = 30
expression_number RayQueryVertexPositions = 31
expression_number CooperativeLoad = 32
expression_number CooperativeMultiplyAdd = 33

abbrev pub statement_number : Statement → ℕ
statement_number Emit = 0
statement_number Block = 1
statement_number If = 2
statement_number Switch = 3
statement_number Loop = 4
statement_number Return = 5
statement_number Store = 6
statement_number ImageStore = 7
statement_number Atomic = 8
statement_number ImageAtomic = 9
statement_number WorkGroupUniformLoad = 10
statement_number SubgroupBallot = 11
statement_number SubgroupCollectiveOperation = 12
statement_number SubgroupGather = 13
statement_number Call = 14
statement_number RayQuery = 15
statement_number CooperativeStore = 16
statement_number RayPipelineFunction = 17
statement_number Break = 18
statement_number Continue = 19
statement_number Kill = 20
statement_number ControlBarrier = 21
statement_number MemoryBarrier = 22
statement_number Open = 23
statement_number Close = 24

-- what is made of a number: the kind that has it, or an error with one that no kind has
abbrev pub NumbersExpression : ℕ → Result Expression UnknownKind → Type 0
NumbersExpression n r = MatchResult r (λ e. expression_number e ≡ n) (λ u. (u.0 ≡ n) × (34 ≤ n))

abbrev pub NumbersStatement : ℕ → Result Statement UnknownKind → Type 0
NumbersStatement n r = MatchResult r (λ s. statement_number s ≡ n) (λ u. (u.0 ≡ n) × (25 ≤ n))
