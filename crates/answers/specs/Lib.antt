-- What a call answers: rules in order, the first broken one, a refusal or a value, and a result buffer afterwards.
pub mod Rules
pub mod Answers
pub mod Laws
