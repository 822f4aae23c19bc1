mod Lists
mod BookSteps
mod FailSteps
