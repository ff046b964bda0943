pub mod Trees
pub mod ExpressionKinds
pub mod Tables
pub mod Views
pub mod Verdicts
pub mod Clauses
pub mod Consulted
