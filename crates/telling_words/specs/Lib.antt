-- What is told of the readers of queries and requests.
pub mod Told
