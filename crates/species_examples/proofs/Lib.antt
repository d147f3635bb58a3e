mod GrammarExamples
mod HullExamples
mod OperatorExamples
mod RunExamples
mod ScopeCases
mod ScopeExamples
mod ScopeParts
mod TextExamples
